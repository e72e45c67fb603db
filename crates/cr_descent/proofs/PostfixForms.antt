-- The grammar of a postfix over operands is that over trees.
use Rattle.std.proofs.Common.{◌≡◌, ℕ, zero, suc, Bool, true, List, [], ◌∷◌, ◌++◌, ◌⊎◌, inl, inr, refl, sym, ap, subst, ◌∙◌, append_assoc}
use Rattle.std.specs.Prelude.{Option, Some, None, is_some}
use Rattle.cr_syntax.specs.declared.look.TokenLook.{TokenLook}
use Rattle.cr_syntax.specs.declared.look.TokenLook.TheVariants as l
use Rattle.cr_syntax.specs.declared.token.Token.{Token}
use Rattle.cr_syntax.specs.declared.token.TokenKind.TheVariants as k
use Rattle.cr_syntax.specs.Look.{look_of}
use Rattle.cr_grammar.specs.declared.tree.Tree.{Tree}
use Rattle.cr_grammar.specs.declared.tree.Tree.TheVariants as tree
use Rattle.cr_grammar.specs.declared.within.Within.{Within}
use Rattle.cr_grammar.specs.declared.word.Word.{Word}
use Rattle.cr_grammar.specs.Forms.{Form, repeated_of}
use Rattle.cr_grammar.specs.declared.wanted.Wanted.{Wanted}
use Rattle.cr_grammar.specs.declared.word.Atom.{Atom}
use Rattle.cr_grammar.specs.declared.word.Path.{Path}
use Rattle.cr_grammar.specs.Expressions as ex
use Rattle.cr_readers.specs.declared.operand.Operand.{Operand}
use Rattle.cr_readers.specs.declared.operand.Operand.TheVariants.{Variable, Above, Whole}
use Rattle.cr_readers.specs.Operand.{whole, named, linked, indexed, yielded, above}
use Rattle.cr_readers.specs.Primaries.{listed_of}
use Rattle.cr_exact.proofs.Tokens.{Led}
use Rattle.cr_exact.proofs.Forms.{last_turn, turn_more, all_read, made_in, made_out}
use Rattle.cr_exact.proofs.Heads.{led_at, led_kind, led_held_at}
use Rattle.cr_descent.proofs.Operands as operands

-- ---- arguments, and the trees of what they follow

pub whole_named : (name : Word) (arguments : Option (List Tree)) (block : Option Tree) → whole (named name arguments block) ≡ tree.Call name.at None name.text (listed_of arguments) block
whole_named name None None = refl
whole_named name None (Some block) = refl
whole_named name (Some arguments) block = refl

pub whole_linked : (x : Tree) (name : Word) (arguments : Option (List Tree)) (block : Option Tree) → whole (linked x name arguments block) ≡ tree.Call name.at (Some x) name.text (listed_of arguments) block
whole_linked x name None None = refl
whole_linked x name None (Some block) = refl
whole_linked x name (Some []) None = refl
whole_linked x name (Some []) (Some block) = refl
whole_linked x name (Some (value ∷ [])) None = refl
whole_linked x name (Some (value ∷ [])) (Some block) = refl
whole_linked x name (Some (value ∷ other ∷ more)) None = refl
whole_linked x name (Some (value ∷ other ∷ more)) (Some block) = refl

pub whole_indexed : (at : ℕ) (x : Tree) (arguments : List Tree) (question : Option ℕ) → whole (indexed at x arguments question) ≡ tree.Index at x arguments (is_some question)
whole_indexed at x arguments None = refl
whole_indexed at x arguments (Some question) = refl

pub whole_yielded : (at : ℕ) (arguments : Option (List Tree)) → whole (yielded at arguments) ≡ tree.Yield at (listed_of arguments)
whole_yielded at None = refl
whole_yielded at (Some arguments) = refl

module _ (S : Wanted → Form Tree) (within : Within) (free : Bool) where
  abbrev pub Arguments : Form (Option (List Tree))
  Arguments = operands.arguments S within free

  pub arguments_list : (w : List Token) (arguments : Option (List Tree)) → Arguments w arguments → ex.arguments S within free w (listed_of arguments)
  arguments_list w None c = inr (c, refl)
  arguments_list w (Some arguments) c = inl c

  pub list_arguments : (w : List Token) (xs : List Tree) → ex.arguments S within free w xs → (arguments : Option (List Tree)) × Arguments w arguments × (xs ≡ listed_of arguments)
  list_arguments w xs (inl c) = (Some xs, c, refl)
  list_arguments w xs (inr c) = (None, c.0, c.1)

  -- ---- what stands at the head

  named_tree : (w : List Token) (o : Operand) → operands.name S within free w o → ex.named S within free w (whole o)
  named_tree w o (a, b, name, e, r, (a', b', arguments, e', m, (a3, b3, block, e3, q, (none, same)))) =
      (a, b, name, e, r, (a', b', listed_of arguments, e', arguments_list a' arguments m, (a3, b3, block, e3, q, (none, ap whole same ∙ whole_named name arguments block))))

  tree_named : (w : List Token) (x : Tree) → ex.named S within free w x → (o : Operand) × operands.name S within free w o × (whole o ≡ x)
  tree_named w x (a, b, name, e, r, (a', b', xs, e', m, (a3, b3, block, e3, q, (none, same)))) =
      let found = list_arguments a' xs m in (
        named name found.0 block,
        (a, b, name, e, r, (a', b', found.0, e', found.1, (a3, b3, block, e3, q, (none, refl)))),
        whole_named name found.0 block ∙ ap (λ (ys : List Tree). tree.Call name.at None name.text ys block) (sym found.2) ∙ sym same,
      )

  yielded_tree : (w : List Token) (o : Operand) → operands.passed_on S within free l.Yield yielded w o → ex.yielded S within free w (whole o)
  yielded_tree w o (a, b, at, e, r, (a', b', arguments, e', m, (none, same))) =
      (a, b, at, e, r, (a', b', listed_of arguments, e', arguments_list a' arguments m, (none, ap whole same ∙ whole_yielded at arguments)))

  tree_yielded : (w : List Token) (x : Tree) → ex.yielded S within free w x → (o : Operand) × operands.passed_on S within free l.Yield yielded w o × (whole o ≡ x)
  tree_yielded w x (a, b, at, e, r, (a', b', xs, e', m, (none, same))) =
      let found = list_arguments a' xs m in (
        yielded at found.0,
        (a, b, at, e, r, (a', b', found.0, e', found.1, (none, refl))),
        whole_yielded at found.0 ∙ ap (λ (ys : List Tree). tree.Yield at ys) (sym found.2) ∙ sym same,
      )

  above_tree : (w : List Token) (o : Operand) → operands.passed_on S within free l.Super above w o → ex.above S within free w (whole o)
  above_tree w o (a, b, at, e, r, (a', b', None, e', m, (none, same))) = inl (a, b, at, e, r, (e' ∙ all_read (a' ++ b') a' b' refl none ∙ m, ap whole same))
  above_tree w o (a, b, at, e, r, (a', b', Some arguments, e', m, (none, same))) = inr (a, b, at, e, r, (a', b', arguments, e', m, (none, ap whole same)))

  tree_above : (w : List Token) (x : Tree) → ex.above S within free w x → (o : Operand) × operands.passed_on S within free l.Super above w o × (whole o ≡ x)
  tree_above w x (inl (a, b, at, e, r, (none, same))) = (Above at, (a, b, at, e, r, ([], b, None, refl, refl, (none, refl))), sym same)
  tree_above w x (inr (a, b, at, e, r, (a', b', arguments, e', m, (none, same)))) =
      (Whole (tree.Super at arguments), (a, b, at, e, r, (a', b', Some arguments, e', m, (none, refl))), sym same)

  -- what is a tree and no more
  plain_tree : (R : Form Tree) (w : List Token) (o : Operand) → operands.all_of S within free R w o → R w (whole o)
  plain_tree R w o c = let r = made_out R (λ x. Whole x) w o c in subst (λ v. R w v) (sym (ap whole r.2)) r.1

  tree_of_by : (look : TokenLook) (w : List Token) (o : Operand) → operands.primary_by S within free look w o → ex.primary S within free w (whole o)
  tree_of_by l.Int32 w o c = inl (plain_tree _ w o c)
  tree_of_by l.Int64 w o c = inl (plain_tree _ w o c)
  tree_of_by l.Text w o c = inr (inl (plain_tree _ w o c))
  tree_of_by l.TextFirst w o c = inr (inl (plain_tree _ w o c))
  tree_of_by l.Nil w o c = inr (inr (inl (inl (plain_tree _ w o c))))
  tree_of_by l.True w o c = inr (inr (inl (inr (inl (plain_tree _ w o c)))))
  tree_of_by l.False w o c = inr (inr (inl (inr (inr (plain_tree _ w o c)))))
  tree_of_by l.KeywordSelf w o (is, c) = inr (inr (inr (inl (is, plain_tree _ w o c))))
  tree_of_by l.InstanceVariable w o (is, (a, b, name, e, r, (none, same))) = inr (inr (inr (inr (inl (is, (a, b, name, e, r, (none, ap whole same)))))))
  tree_of_by l.Ident w o c = inr (inr (inr (inr (inr (inl (named_tree w o c))))))
  tree_of_by l.Yield w o (is, c) = inr (inr (inr (inr (inr (inr (inl (is, inl (yielded_tree w o c))))))))
  tree_of_by l.Super w o (is, c) = inr (inr (inr (inr (inr (inr (inl (is, inr (above_tree w o c))))))))
  tree_of_by l.Constant w o c = elim (plain_tree _ w o c) [
    | inl r ↦ inr (inr (inr (inr (inr (inr (inr (inl r)))))))
    | inr r ↦ inr (inr (inr (inr (inr (inr (inr (inr (inl r))))))))
  ]
  tree_of_by l.OpenBracket w o c = inr (inr (inr (inr (inr (inr (inr (inr (inr (inl (plain_tree _ w o c))))))))))
  tree_of_by l.OpenBrace w o c = inr (inr (inr (inr (inr (inr (inr (inr (inr (inr (inl (plain_tree _ w o c)))))))))))
  tree_of_by l.OpenParenthesis w o c = inr (inr (inr (inr (inr (inr (inr (inr (inr (inr (inr (inl (plain_tree _ w o c))))))))))))
  tree_of_by l.Spawn w o c = inr (inr (inr (inr (inr (inr (inr (inr (inr (inr (inr (inr (inl (plain_tree _ w o c)))))))))))))
  tree_of_by l.If w o c = inr (inr (inr (inr (inr (inr (inr (inr (inr (inr (inr (inr (inr (inl (inl (plain_tree _ w o c)))))))))))))))
  tree_of_by l.Unless w o c = inr (inr (inr (inr (inr (inr (inr (inr (inr (inr (inr (inr (inr (inl (inr (plain_tree _ w o c)))))))))))))))
  tree_of_by l.While w o c = inr (inr (inr (inr (inr (inr (inr (inr (inr (inr (inr (inr (inr (inr (inl (inl (plain_tree _ w o c))))))))))))))))
  tree_of_by l.Until w o c = inr (inr (inr (inr (inr (inr (inr (inr (inr (inr (inr (inr (inr (inr (inl (inr (plain_tree _ w o c))))))))))))))))
  tree_of_by l.Case w o c = inr (inr (inr (inr (inr (inr (inr (inr (inr (inr (inr (inr (inr (inr (inr (inl (plain_tree _ w o c))))))))))))))))
  tree_of_by l.Select w o c = inr (inr (inr (inr (inr (inr (inr (inr (inr (inr (inr (inr (inr (inr (inr (inr (plain_tree _ w o c))))))))))))))))
  tree_of_by other w o c = absurd c

  pub primary_tree : (w : List Token) (o : Operand) → operands.primary S within free w o → ex.primary S within free w (whole o)
  primary_tree w o (look, led, c) = tree_of_by look w o c

  -- an operand for a tree
  abbrev Of : Form Operand → Form Tree
  Of R w x = (o : Operand) × R w o × (whole o ≡ x)

  plain_of : (R : Form Tree) (look : TokenLook) (w : List Token) (x : Tree) → Led look w → (operands.all_of S within free R w (Whole x) → operands.primary_by S within free look w (Whole x)) → R w x
      → Of (operands.primary S within free) w x
  plain_of R look w x led into r = (Whole x, (look, led, into (made_in R (λ y. Whole y) w x r)), refl)

  by_look : (R : Form Operand) (look : TokenLook) (w : List Token) (x : Tree) → Led look w → ((o : Operand) → R w o → operands.primary_by S within free look w o) → Of R w x → Of (operands.primary S within free) w x
  by_look R look w x led into r = (r.0, (look, led, into r.0 r.1), r.2)

  number_of : (w : List Token) (x : Tree) → ex.number S within free w x → Of (operands.primary S within free) w x
  number_of w x (t, e, inl q) = plain_of _ l.Int32 w x (t, [], e, ap look_of q.1) (λ c. c) (t, e, inl q)
  number_of w x (t, e, inr q) = plain_of _ l.Int64 w x (t, [], e, ap look_of q.1) (λ c. c) (t, e, inr q)

  text_of : (w : List Token) (x : Tree) → ex.text S within free w x → Of (operands.primary S within free) w x
  text_of w x (inl r) = plain_of _ l.Text w x (led_held_at (λ text. k.Text text) w r.0 r.1 r.2 r.3 r.4) (λ c. c) (inl r)
  text_of w x (inr r) = plain_of _ l.TextFirst w x (led_held_at (λ text. k.TextFirst text) w r.0 r.1 r.2 r.3 r.4) (λ c. c) (inr r)

  constant_of : (w : List Token) (x : Tree) → ex.constants S within free w x → Of (operands.primary S within free) w x
  constant_of w x (inl r) = plain_of _ l.Nil w x (led_at l.Nil w r.0 r.1 r.2 r.3 r.4) (λ c. c) r
  constant_of w x (inr (inl r)) = plain_of _ l.True w x (led_at l.True w r.0 r.1 r.2 r.3 r.4) (λ c. c) r
  constant_of w x (inr (inr r)) = plain_of _ l.False w x (led_at l.False w r.0 r.1 r.2 r.3 r.4) (λ c. c) r

  variable_of : (w : List Token) (x : Tree) → ex.variable S within free w x → Of (operands.primary S within free) w x
  variable_of w x (is, (a, b, name, e, r, (none, same))) =
      (Variable name, (l.InstanceVariable, led_held_at (λ text. k.InstanceVariable text) w a b name e r, (is, (a, b, name, e, r, (none, refl)))), sym same)

  made_of : (w : List Token) (x : Tree) → ex.made S within free w x → Of (operands.primary S within free) w x
  made_of w x r = plain_of _ l.Constant w x (atom_led w r.0 r.1 r.2 r.3 r.4) (λ c. c) (inl r) where
    path_led : (w a b : List Token) (p : Path) → w ≡ a ++ b → ex.path a p → Led l.Constant w
    path_led w a b p e q = led_held_at (λ text. k.Constant text) w q.0 (q.1 ++ b) q.2 (e ∙ ap (λ (t : List Token). t ++ b) q.3 ∙ append_assoc q.0 q.1 b) q.4

    atom_led : (w a b : List Token) (c : Atom) → w ≡ a ++ b → ex.atom S true a c → Led l.Constant w
    atom_led w a b c e q = path_led w q.0 (q.1 ++ b) q.2 (e ∙ ap (λ (t : List Token). t ++ b) q.3 ∙ append_assoc q.0 q.1 b) q.4

  pub tree_primary : (w : List Token) (x : Tree) → ex.primary S within free w x → Of (operands.primary S within free) w x
  tree_primary w x (inl r) = number_of w x r
  tree_primary w x (inr (inl r)) = text_of w x r
  tree_primary w x (inr (inr (inl r))) = constant_of w x r
  tree_primary w x (inr (inr (inr (inl (is, r))))) = plain_of _ l.KeywordSelf w x (led_at l.KeywordSelf w r.0 r.1 r.2 r.3 r.4) (λ c. (is, c)) r
  tree_primary w x (inr (inr (inr (inr (inl r))))) = variable_of w x r
  tree_primary w x (inr (inr (inr (inr (inr (inl r)))))) = by_look (operands.name S within free) l.Ident w x (led_held_at (λ text. k.Ident text) w r.0 r.1 r.2 r.3 r.4) (λ o c. c) (tree_named w x r)
  tree_primary w x (inr (inr (inr (inr (inr (inr (inl (is, inl r)))))))) = by_look (operands.passed_on S within free l.Yield yielded) l.Yield w x (led_at l.Yield w r.0 r.1 r.2 r.3 r.4) (λ o c. (is, c)) (tree_yielded w x r)
  tree_primary w x (inr (inr (inr (inr (inr (inr (inl (is, inr (inl r))))))))) =
      by_look (operands.passed_on S within free l.Super above) l.Super w x (led_at l.Super w r.0 r.1 r.2 r.3 r.4) (λ o c. (is, c)) (tree_above w x (inl r))
  tree_primary w x (inr (inr (inr (inr (inr (inr (inl (is, inr (inr r))))))))) =
      by_look (operands.passed_on S within free l.Super above) l.Super w x (led_at l.Super w r.0 r.1 r.2 r.3 r.4) (λ o c. (is, c)) (tree_above w x (inr r))
  tree_primary w x (inr (inr (inr (inr (inr (inr (inr (inl r)))))))) = made_of w x r
  tree_primary w x (inr (inr (inr (inr (inr (inr (inr (inr (inl r))))))))) = plain_of _ l.Constant w x (led_kind (k.Constant _) w r.0 r.1 r.4.0 r.3 r.4.1 r.4.2.0) (λ c. c) (inr r)
  tree_primary w x (inr (inr (inr (inr (inr (inr (inr (inr (inr (inl r)))))))))) = plain_of _ l.OpenBracket w x (led_at l.OpenBracket w r.0 r.1 r.2 r.3 r.4) (λ c. c) r
  tree_primary w x (inr (inr (inr (inr (inr (inr (inr (inr (inr (inr (inl r))))))))))) = plain_of _ l.OpenBrace w x (led_at l.OpenBrace w r.0 r.1 r.2 r.3 r.4) (λ c. c) r
  tree_primary w x (inr (inr (inr (inr (inr (inr (inr (inr (inr (inr (inr (inl r)))))))))))) = plain_of _ l.OpenParenthesis w x (led_at l.OpenParenthesis w r.0 r.1 r.2 r.3 r.4) (λ c. c) r
  tree_primary w x (inr (inr (inr (inr (inr (inr (inr (inr (inr (inr (inr (inr (inl r))))))))))))) = plain_of _ l.Spawn w x (led_at l.Spawn w r.0 r.1 r.2 r.3 r.4) (λ c. c) r
  tree_primary w x (inr (inr (inr (inr (inr (inr (inr (inr (inr (inr (inr (inr (inr (inl (inl r))))))))))))))) = plain_of _ l.If w x (led_at l.If w r.0 r.1 r.2 r.3 r.4) (λ c. c) r
  tree_primary w x (inr (inr (inr (inr (inr (inr (inr (inr (inr (inr (inr (inr (inr (inl (inr r))))))))))))))) = plain_of _ l.Unless w x (led_at l.Unless w r.0 r.1 r.2 r.3 r.4) (λ c. c) r
  tree_primary w x (inr (inr (inr (inr (inr (inr (inr (inr (inr (inr (inr (inr (inr (inr (inl (inl r)))))))))))))))) = plain_of _ l.While w x (led_at l.While w r.0 r.1 r.2 r.3 r.4) (λ c. c) r
  tree_primary w x (inr (inr (inr (inr (inr (inr (inr (inr (inr (inr (inr (inr (inr (inr (inl (inr r)))))))))))))))) = plain_of _ l.Until w x (led_at l.Until w r.0 r.1 r.2 r.3 r.4) (λ c. c) r
  tree_primary w x (inr (inr (inr (inr (inr (inr (inr (inr (inr (inr (inr (inr (inr (inr (inr (inl r)))))))))))))))) = plain_of _ l.Case w x (led_at l.Case w r.0 r.1 r.2 r.3 r.4) (λ c. c) r
  tree_primary w x (inr (inr (inr (inr (inr (inr (inr (inr (inr (inr (inr (inr (inr (inr (inr (inr r)))))))))))))))) = plain_of _ l.Select w x (led_at l.Select w r.0 r.1 r.2 r.3 r.4) (λ c. c) r

  -- ---- links

  called_tree : (x : Tree) (w : List Token) (o : Operand) → operands.called S within free x w o → ex.called S within free x w (whole o)
  called_tree x w o (a, b, at, e, r, (a', b', name, e', m, (a2, b2, arguments, e2, q, (a3, b3, block, e3, t, (none, same))))) =
      (a, b, at, e, r, (a', b', name, e', m, (a2, b2, listed_of arguments, e2, arguments_list a2 arguments q, (a3, b3, block, e3, t, (none, ap whole same ∙ whole_linked x name arguments block)))))

  tree_called : (x : Tree) (w : List Token) (y : Tree) → ex.called S within free x w y → Of (operands.called S within free x) w y
  tree_called x w y (a, b, at, e, r, (a', b', name, e', m, (a2, b2, xs, e2, q, (a3, b3, block, e3, t, (none, same))))) =
      let found = list_arguments a2 xs q in (
        linked x name found.0 block,
        (a, b, at, e, r, (a', b', name, e', m, (a2, b2, found.0, e2, found.1, (a3, b3, block, e3, t, (none, refl))))),
        whole_linked x name found.0 block ∙ ap (λ (ys : List Tree). tree.Call name.at (Some x) name.text ys block) (sym found.2) ∙ sym same,
      )

  indexed_tree : (x : Tree) (w : List Token) (o : Operand) → operands.at_index S within free x w o → ex.indexed S within free x w (whole o)
  indexed_tree x w o (a, b, found, e, r, (a', b', question, e', m, (none, same))) =
      (a, b, found, e, r, (a', b', question, e', m, (none, ap whole same ∙ whole_indexed found.0 x found.1 question)))

  tree_indexed : (x : Tree) (w : List Token) (y : Tree) → ex.indexed S within free x w y → Of (operands.at_index S within free x) w y
  tree_indexed x w y (a, b, found, e, r, (a', b', question, e', m, (none, same))) =
      (indexed found.0 x found.1 question, (a, b, found, e, r, (a', b', question, e', m, (none, refl))), whole_indexed found.0 x found.1 question ∙ sym same)

  abbrev pub Link : Operand → Form Operand
  Link = operands.link S within free

  pub link_tree : (z : Operand) (w : List Token) (o : Operand) → Link z w o → ex.link S within free (whole z) w (whole o)
  link_tree z w o (inl c) = inl (called_tree (whole z) w o c)
  link_tree z w o (inr (inl c)) = inr (inl (indexed_tree (whole z) w o c))
  link_tree z w o (inr (inr (inl c))) = inr (inr (inl (plain_tree _ w o c)))
  link_tree z w o (inr (inr (inr (inl c)))) = inr (inr (inr (inl (plain_tree _ w o c))))
  link_tree z w o (inr (inr (inr (inr c)))) = inr (inr (inr (inr (plain_tree _ w o c))))

  pub tree_link : (z : Operand) (w : List Token) (x : Tree) → ex.link S within free (whole z) w x → Of (Link z) w x
  tree_link z w x (inl c) = let r = tree_called (whole z) w x c in (r.0, inl r.1, r.2)
  tree_link z w x (inr (inl c)) = let r = tree_indexed (whole z) w x c in (r.0, inr (inl r.1), r.2)
  tree_link z w x (inr (inr (inl c))) = (Whole x, inr (inr (inl (made_in _ (λ y. Whole y) w x c))), refl)
  tree_link z w x (inr (inr (inr (inl c)))) = (Whole x, inr (inr (inr (inl (made_in _ (λ y. Whole y) w x c)))), refl)
  tree_link z w x (inr (inr (inr (inr c)))) = (Whole x, inr (inr (inr (inr (made_in _ (λ y. Whole y) w x c)))), refl)

  -- ---- the whole

  links_tree : (n : ℕ) (z : Operand) (w : List Token) (o : Operand) → repeated_of n Link z w o → repeated_of n (ex.link S within free) (whole z) w (whole o)
  links_tree zero z w o c = (c.0, ap whole c.1)
  links_tree (suc n) z w o c = (c.0, c.1, whole c.2, c.3, link_tree z c.0 c.2 c.4, links_tree n c.2 c.1 o c.5)

  tree_links : (n : ℕ) (z : Operand) (x : Tree) (w : List Token) (y : Tree) → whole z ≡ x → repeated_of n (ex.link S within free) x w y → Of (repeated_of n Link z) w y
  tree_links zero z x w y is c = (z, (c.0, refl), is ∙ sym c.1)
  tree_links (suc n) z x w y is c =
      let one = tree_link z c.0 c.2 (subst (λ v. ex.link S within free v c.0 c.2) (sym is) c.4) in
      let more = tree_links n one.0 c.2 c.1 y one.2 c.5 in
      (more.0, (c.0, c.1, one.0, c.3, one.1, more.1), more.2)

  pub postfix_tree : (w : List Token) (o : Operand) → operands.postfix S within free w o → ex.postfix S within free w (whole o)
  postfix_tree w o c = (c.0, c.1, whole c.2, c.3, primary_tree c.0 c.2 c.4, (c.5.0, links_tree c.5.0 c.2 c.1 o c.5.1))

  pub tree_postfix : (w : List Token) (x : Tree) → ex.postfix S within free w x → Of (operands.postfix S within free) w x
  tree_postfix w x c =
      let one = tree_primary c.0 c.2 c.4 in
      let more = tree_links c.5.0 one.0 c.2 c.1 x one.2 c.5.1 in
      (more.0, (c.0, c.1, one.0, c.3, one.1, (c.5.0, more.1)), more.2)

  -- a link more
  pub postfix_more : (u v : List Token) (z o : Operand) → operands.postfix S within free u z → Link z v o → operands.postfix S within free (u ++ v) o
  postfix_more u v z o c r =
      (c.0, c.1 ++ v, c.2, ap (λ (t : List Token). t ++ v) c.3 ∙ append_assoc c.0 c.1 v, c.4, (suc c.5.0, turn_more Link c.5.0 c.2 z c.1 v o c.5.1 r))

  -- a head alone, or a last link
  abbrev Last : List Token → Operand → Type 0
  Last w o = (u : List Token) × (v : List Token) × (z : Operand) × (w ≡ u ++ v) × operands.postfix S within free u z × Link z v o

  pub last_link : (w : List Token) (o : Operand) → operands.postfix S within free w o → operands.primary S within free w o ⊎ Last w o
  last_link w o (a, b, z, e, c, (zero, (none, same))) =
      inl (subst (λ t. operands.primary S within free t o) (sym (all_read w a b e none)) (subst (λ y. operands.primary S within free a y) (sym same) c))
  last_link w o (a, b, z, e, c, (suc n, r)) =
      let t = last_turn Link n z b o r in
      inr (a ++ t.0, t.1, t.2, e ∙ ap (λ (s : List Token). a ++ s) t.3 ∙ sym (append_assoc a t.0 t.1), (a, t.0, z, refl, c, (n, t.4)), t.5)

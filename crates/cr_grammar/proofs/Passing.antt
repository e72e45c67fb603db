-- What is spelled without parentheses and blocks passes nothing.
use Rattle.std.proofs.Common.{◌≡◌, ℕ, zero, suc, Bool, true, false, not, ◌&&◌, ◌||◌, List, [], ◌∷◌, ◌++◌, ◌⊎◌, inl, inr, refl, sym, ap, subst, ◌∙◌, arith}
use Rattle.std.proofs.lemmas.Bool.{and_parts}
use Rattle.std.specs.Prelude.{ℤ, Option, Some, None}
use Rattle.cr_syntax.specs.declared.look.TokenLook.{TokenLook}
use Rattle.cr_syntax.specs.declared.look.TokenLook.TheVariants as l
use Rattle.cr_syntax.specs.declared.token.Token.{Token}
use Rattle.cr_syntax.specs.Look.{look_of}
use Rattle.cr_grammar.specs.declared.operator.Binary.{Binary}
use Rattle.cr_grammar.specs.declared.operator.Unary as prefix
use Rattle.cr_grammar.specs.declared.tree.Tree.{Tree, the_lemmas}
use Rattle.cr_grammar.specs.declared.tree.Tree.TheVariants as tree
use Rattle.cr_grammar.specs.declared.within.Within.{Within}
use Rattle.cr_grammar.specs.Forms.{Form, ◌>>◌, word, many, comma, listed, maybe, repeated_of}
use Rattle.cr_grammar.specs.Operators as o
use Rattle.cr_grammar.specs.declared.wanted.Wanted.{Wanted}
use Rattle.cr_grammar.specs.declared.wanted.Wanted.TheVariants.{Or}
use Rattle.cr_grammar.specs.Expressions as ex
use Rattle.cr_grammar.specs.Grammar.{Spells_in}
use Rattle.cr_grammar.specs.Laws.{passes, any_passes, opens, none_opens, DoIsNotTheirs, NoCommandInside}

as_it : (x v : Tree) → x ≡ v → passes v ≡ false → passes x ≡ false
as_it x v e h = subst (λ (y : Tree). passes y ≡ false) (sym e) h

at_Int32 : (a : ℕ) → (b : ℤ) → passes (tree.Int32 a b) ≡ false
at_Int32 a b = grind (arith, the_lemmas)

at_Int64 : (a : ℕ) → (b : ℤ) → passes (tree.Int64 a b) ≡ false
at_Int64 a b = grind (arith, the_lemmas)

at_Text : (a : ℕ) → (b : List ℕ) → passes (tree.Text a b) ≡ false
at_Text a b = grind (arith, the_lemmas)

at_Insertions : (a : ℕ) → (b : List (List ℕ)) → (c : List Tree) → passes (tree.Insertions a b c) ≡ false
at_Insertions a b c = grind (arith, the_lemmas)

at_Nil : (a : ℕ) → passes (tree.Nil a) ≡ false
at_Nil a = grind (arith, the_lemmas)

at_True : (a : ℕ) → passes (tree.True a) ≡ false
at_True a = grind (arith, the_lemmas)

at_False : (a : ℕ) → passes (tree.False a) ≡ false
at_False a = grind (arith, the_lemmas)

at_KeywordSelf : (a : ℕ) → passes (tree.KeywordSelf a) ≡ false
at_KeywordSelf a = grind (arith, the_lemmas)

at_InstanceVariable : (a : ℕ) → (b : List ℕ) → passes (tree.InstanceVariable a b) ≡ false
at_InstanceVariable a b = grind (arith, the_lemmas)

at_Array : (a : ℕ) → (b : List Tree) → (c : Option Tree) → passes (tree.Array a b c) ≡ false
at_Array a b c = grind (arith, the_lemmas)

at_Hash : (a : ℕ) → (b : List Tree) → (c : Option Tree) → passes (tree.Hash a b c) ≡ false
at_Hash a b c = grind (arith, the_lemmas)

at_Index : (a : ℕ) → (b : Tree) → (c : List Tree) → (d : Bool) → passes (tree.Index a b c d) ≡ false
at_Index a b c d = grind (arith, the_lemmas)

at_Binary : (a : ℕ) → (b : Binary) → (c : Tree) → (d : Tree) → passes (tree.Binary a b c d) ≡ false
at_Binary a b c d = grind (arith, the_lemmas)

at_Unary : (a : ℕ) → (b : prefix.Unary) → (c : Tree) → passes (tree.Unary a b c) ≡ false
at_Unary a b c = grind (arith, the_lemmas)

at_IsNil : (a : ℕ) → (b : Tree) → passes (tree.IsNil a b) ≡ false
at_IsNil a b = grind (arith, the_lemmas)

at_IsA : (a : ℕ) → (b : Tree) → (c : Tree) → passes (tree.IsA a b c) ≡ false
at_IsA a b c = grind (arith, the_lemmas)

at_New : (a : ℕ) → (b : Tree) → (c : Bool) → (d : List Tree) → (e : Option Tree) → passes (tree.New a b c d e) ≡ false
at_New a b c d e = grind (arith, the_lemmas)

at_Pause : (a : ℕ) → passes (tree.Pause a) ≡ false
at_Pause a = grind (arith, the_lemmas)

at_Yield : (a : ℕ) → (b : List Tree) → passes (tree.Yield a b) ≡ false
at_Yield a b = grind (arith, the_lemmas)

at_Super : (a : ℕ) → (b : List Tree) → passes (tree.Super a b) ≡ false
at_Super a b = grind (arith, the_lemmas)

at_BareSuper : (a : ℕ) → passes (tree.BareSuper a) ≡ false
at_BareSuper a = grind (arith, the_lemmas)

at_Spawn : (a : ℕ) → (b : Option Tree) → (c : List Tree) → passes (tree.Spawn a b c) ≡ false
at_Spawn a b c = grind (arith, the_lemmas)

at_If : (a : ℕ) → (b : Bool) → (c : Tree) → (d : List Tree) → (e : List Tree) → (f : Option (List Tree)) → passes (tree.If a b c d e f) ≡ false
at_If a b c d e f = grind (arith, the_lemmas)

at_While : (a : ℕ) → (b : Bool) → (c : Tree) → (d : List Tree) → passes (tree.While a b c d) ≡ false
at_While a b c d = grind (arith, the_lemmas)

at_Case : (a : ℕ) → (b : Tree) → (c : List Tree) → passes (tree.Case a b c) ≡ false
at_Case a b c = grind (arith, the_lemmas)

at_Select : (a : ℕ) → (b : List Tree) → (c : Option (List Tree)) → passes (tree.Select a b c) ≡ false
at_Select a b c = grind (arith, the_lemmas)

at_Call : (a : ℕ) → (b : Option Tree) → (c : List ℕ) → passes (tree.Call a b c [] None) ≡ false
at_Call a b c = grind (arith, the_lemmas)

-- what holds of a list of tokens holds of its parts
parts : (free : Bool) (a b : List Token) → none_opens free (a ++ b) ≡ true → (none_opens free a ≡ true) × (none_opens free b ≡ true)
parts free [] b e = (refl, e)
parts free (t ∷ a) b e =
    let split = and_parts (not (opens free (look_of t.kind))) (none_opens free (a ++ b)) e in
    let rest = parts free a b split.1 in
    (ap (λ c. not (opens free (look_of t.kind)) && c) rest.0 ∙ (ap (λ c. c && true) split.0), rest.1)

ahead : (free : Bool) (w a b : List Token) → w ≡ a ++ b → none_opens free w ≡ true → none_opens free a ≡ true
ahead free w a b e n = (parts free a b (subst (λ v. none_opens free v ≡ true) e n)).0

after : (free : Bool) (w a b : List Token) → w ≡ a ++ b → none_opens free w ≡ true → none_opens free b ≡ true
after free w a b e n = (parts free a b (subst (λ v. none_opens free v ≡ true) e n)).1

opened : (free : Bool) (seen : TokenLook) (w : List Token) (at : ℕ) → word seen w at → none_opens free w ≡ true → opens free seen ≡ true → ⊥
opened free seen w at r n o =
    let is : none_opens free (r.0 ∷ []) ≡ true = subst (λ v. none_opens free v ≡ true) r.1 n in
    let open_look : opens free (look_of r.0.kind) ≡ true = ap (opens free) r.2.0 ∙ o in
    let impossible : (not true && true) ≡ true = subst (λ c. (not c && true) ≡ true) open_look is in
    absurd cc

module _ (S : Wanted → Form Tree) (within : Within) (free : Bool) where
  no_block : (w : List Token) (x : Tree) → ex.block S within free w x → none_opens free w ≡ true → ⊥
  no_block w x (inl r) n = opened free l.OpenBrace r.0 r.2 r.4 (ahead free w r.0 r.1 r.3 n) refl
  no_block w x (inr (is, r)) n = opened free l.Do r.0 r.2 r.4 (ahead free w r.0 r.1 r.3 n) is

  no_arguments : (w : List Token) (xs : List Tree) → ex.arguments S within free w xs → none_opens free w ≡ true → xs ≡ []
  no_arguments w xs (inl (is, r)) n = absurd (opened free l.OpenParenthesis r.0 r.2 r.4 (ahead free w r.0 r.1 r.3 n) refl)
  no_arguments w xs (inr r) n = r.1

  call_by : (at : ℕ) (receiver : Option Tree) (name : List ℕ) (arguments : List Tree) (block : Option Tree) (v w : List Token) (x : Tree)
      → ex.arguments S within free v arguments → none_opens free v ≡ true → maybe (ex.block S within free) w block → none_opens free w ≡ true
      → x ≡ tree.Call at receiver name arguments block → passes x ≡ false
  call_by at receiver name arguments None v w x ra m r n e =
      as_it x _ (e ∙ ap (λ (xs : List Tree). tree.Call at receiver name xs None) (no_arguments v arguments ra m)) (at_Call at receiver name)
  call_by at receiver name arguments (Some block) v w x ra m r n e = absurd (no_block w block r n)

  number_none : (w : List Token) (x : Tree) → ex.number S within free w x → passes x ≡ false
  number_none w x (t, e, inl q) = as_it x _ q.2 (at_Int32 _ _)
  number_none w x (t, e, inr q) = as_it x _ q.2 (at_Int64 _ _)

  text_none : (w : List Token) (x : Tree) → ex.text S within free w x → passes x ≡ false
  text_none w x (inl r) = as_it x _ r.5.1 (at_Text _ _)
  text_none w x (inr r) = as_it x _ r.5.5.5.5.1 (at_Insertions _ _ _)

  constants_none : (w : List Token) (x : Tree) → ex.constants S within free w x → passes x ≡ false
  constants_none w x (inl r) = as_it x _ r.5.1 (at_Nil _)
  constants_none w x (inr (inl r)) = as_it x _ r.5.1 (at_True _)
  constants_none w x (inr (inr r)) = as_it x _ r.5.1 (at_False _)

  super_none : (w : List Token) (x : Tree) → (ex.yielded S within free w x ⊎ ex.above S within free w x) → passes x ≡ false
  super_none w x (inl r) = as_it x _ r.5.5.1 (at_Yield _ _)
  super_none w x (inr (inl r)) = as_it x _ r.5.1 (at_BareSuper _)
  super_none w x (inr (inr r)) = as_it x _ r.5.5.1 (at_Super _ _)

  conditional_none : (w : List Token) (x : Tree) → ex.conditional S within free w x → passes x ≡ false
  conditional_none w x (inl r) = as_it x _ r.5.5.5.5.5.5.5.1 (at_If _ _ _ _ _ _)
  conditional_none w x (inr r) = as_it x _ r.5.5.5.5.5.5.5.1 (at_If _ _ _ _ _ _)

  looping_none : (w : List Token) (x : Tree) → ex.looping S within free w x → passes x ≡ false
  looping_none w x (inl r) = as_it x _ r.5.5.5.5.5.1 (at_While _ _ _ _)
  looping_none w x (inr r) = as_it x _ r.5.5.5.5.5.1 (at_While _ _ _ _)

  named_none : (w : List Token) (x : Tree) → ex.named S within free w x → none_opens free w ≡ true → passes x ≡ false
  named_none w x r n =
      let m = after free w r.0 r.1 r.3 n in
      let m' = after free r.1 r.5.0 r.5.1 r.5.3 m in
      call_by r.2.at None r.2.text r.5.2 r.5.5.2 r.5.0 r.5.5.0 x r.5.4 (ahead free r.1 r.5.0 r.5.1 r.5.3 m) r.5.5.4 (ahead free r.5.1 r.5.5.0 r.5.5.1 r.5.5.3 m') r.5.5.5.1

  primary_none : (w : List Token) (x : Tree) → ex.primary S within free w x → none_opens free w ≡ true → passes x ≡ false
  primary_none w x (inl r) n = number_none w x r
  primary_none w x (inr (inl r)) n = text_none w x r
  primary_none w x (inr (inr (inl r))) n = constants_none w x r
  primary_none w x (inr (inr (inr (inl (is, r))))) n = as_it x _ r.5.1 (at_KeywordSelf _)
  primary_none w x (inr (inr (inr (inr (inl (is, r)))))) n = as_it x _ r.5.1 (at_InstanceVariable _ _)
  primary_none w x (inr (inr (inr (inr (inr (inl r)))))) n = named_none w x r n
  primary_none w x (inr (inr (inr (inr (inr (inr (inl (is, r)))))))) n = super_none w x r
  primary_none w x (inr (inr (inr (inr (inr (inr (inr (inl r)))))))) n = as_it x _ r.5.5.5.5.5.1 (at_New _ _ _ _ _)
  primary_none w x (inr (inr (inr (inr (inr (inr (inr (inr (inl r))))))))) n = as_it x _ r.5.5.5.1 (at_Pause _)
  primary_none w x (inr (inr (inr (inr (inr (inr (inr (inr (inr (inl r)))))))))) n = as_it x _ r.5.5.5.5.5.5.1 (at_Array _ _ _)
  primary_none w x (inr (inr (inr (inr (inr (inr (inr (inr (inr (inr (inl r))))))))))) n = as_it x _ r.5.5.5.5.5.1 (at_Hash _ _ _)
  primary_none w x (inr (inr (inr (inr (inr (inr (inr (inr (inr (inr (inr (inl r)))))))))))) n = absurd (opened free l.OpenParenthesis r.0 r.2 r.4 (ahead free w r.0 r.1 r.3 n) refl)
  primary_none w x (inr (inr (inr (inr (inr (inr (inr (inr (inr (inr (inr (inr (inl r))))))))))))) n = as_it x _ r.5.5.1 (at_Spawn r.2 None r.5.2)
  primary_none w x (inr (inr (inr (inr (inr (inr (inr (inr (inr (inr (inr (inr (inr (inl r)))))))))))))) n = conditional_none w x r
  primary_none w x (inr (inr (inr (inr (inr (inr (inr (inr (inr (inr (inr (inr (inr (inr (inl r))))))))))))))) n = looping_none w x r
  primary_none w x (inr (inr (inr (inr (inr (inr (inr (inr (inr (inr (inr (inr (inr (inr (inr (inl r)))))))))))))))) n = as_it x _ r.5.5.5.5.5.5.1 (at_Case _ _ _)
  primary_none w x (inr (inr (inr (inr (inr (inr (inr (inr (inr (inr (inr (inr (inr (inr (inr (inr r)))))))))))))))) n = as_it x _ r.5.5.5.5.5.5.1 (at_Select _ _ _)

  link_none : (y : Tree) (w : List Token) (x : Tree) → ex.link S within free y w x → none_opens free w ≡ true → passes x ≡ false
  link_none y w x (inl r) n =
      let m = after free w r.0 r.1 r.3 n in
      let m' = after free r.1 r.5.0 r.5.1 r.5.3 m in
      let m'' = after free r.5.1 r.5.5.0 r.5.5.1 r.5.5.3 m' in
      call_by r.5.2.at (Some y) r.5.2.text r.5.5.2 r.5.5.5.2 r.5.5.0 r.5.5.5.0 x r.5.5.4 (ahead free r.5.1 r.5.5.0 r.5.5.1 r.5.5.3 m') r.5.5.5.4 (ahead free r.5.5.1 r.5.5.5.0 r.5.5.5.1 r.5.5.5.3 m'') r.5.5.5.5.1
  link_none y w x (inr (inl r)) n = as_it x _ r.5.5.1 (at_Index _ _ _ _)
  link_none y w x (inr (inr (inl r))) n = as_it x _ r.5.5.5.1 (at_IsA _ _ _)
  link_none y w x (inr (inr (inr (inl r)))) n = as_it x _ r.5.5.1 (at_IsNil _ _)
  link_none y w x (inr (inr (inr (inr r)))) n = as_it x _ r.5.5.5.1 (at_Spawn r.5.2 (Some y) r.5.5.2)

  links_none : (n : ℕ) (y : Tree) (w : List Token) (x : Tree) → passes y ≡ false → repeated_of n (ex.link S within free) y w x → none_opens free w ≡ true → passes x ≡ false
  links_none zero y w x h r m = as_it x y r.1 h
  links_none (suc n) y w x h r m = links_none n r.2 r.1 x (link_none y r.0 r.2 r.4 (ahead free w r.0 r.1 r.3 m)) r.5 (after free w r.0 r.1 r.3 m)

  postfix_none : (w : List Token) (x : Tree) → ex.postfix S within free w x → none_opens free w ≡ true → passes x ≡ false
  postfix_none w x r n = links_none r.5.0 r.2 r.1 x (primary_none r.0 r.2 r.4 (ahead free w r.0 r.1 r.3 n)) r.5.1 (after free w r.0 r.1 r.3 n)

  unary_none : (w : List Token) (x : Tree) → ex.unary S within free w x → none_opens free w ≡ true → passes x ≡ false
  unary_none w x (inl r) n = as_it x _ r.5.5.1 (at_Unary _ _ _)
  unary_none w x (inr (inl r)) n = as_it x _ r.5.5.1 (at_Unary _ _ _)
  unary_none w x (inr (inr r)) n = postfix_none w x r n

  operation_none : (table : TokenLook → Option Binary) (R : Form Tree) (y : Tree × TokenLook) (w : List Token) (x : Tree × TokenLook) → ex.operation S within free table R y w x → passes x.0 ≡ false
  operation_none table R y w x r =
      as_it x.0 (tree.Binary r.1.2.0 r.1.2.1 y.0 r.1.5.2.0) (ap (λ (p : Tree × TokenLook). p.0) r.1.5.5.1) (at_Binary r.1.2.0 r.1.2.1 y.0 r.1.5.2.0)

  operations_none : (table : TokenLook → Option Binary) (R : Form Tree) (n : ℕ) (y : Tree × TokenLook) (w : List Token) (x : Tree × TokenLook)
      → passes y.0 ≡ false → repeated_of n (ex.operation S within free table R) y w x → passes x.0 ≡ false
  operations_none table R zero y w x h r = as_it x.0 y.0 (ap (λ (p : Tree × TokenLook). p.0) r.1) h
  operations_none table R (suc n) y w x h r = operations_none table R n r.2 r.1 x (operation_none table R y r.0 r.2 r.4) r.5

  -- a chain is an operation, or one of its operands
  chain_none : (table : TokenLook → Option Binary) (R : Form Tree) → ((w : List Token) (x : Tree) → R w x → none_opens free w ≡ true → passes x ≡ false)
      → (w : List Token) (x : Tree) → ex.operations S within free table R w x → none_opens free w ≡ true → passes x ≡ false
  chain_none table R h w x r n =
      let last = operations_none table R r.5.4.0 r.2 r.5.0 r.5.2 (h r.0 r.2.0 r.4.0 (ahead free w r.0 r.1 r.3 n)) r.5.4.1 in
      as_it x r.5.2.0 r.5.5.1 last

  one_none : (table : TokenLook → Option Binary) (R : Form Tree) → ((w : List Token) (x : Tree) → R w x → none_opens free w ≡ true → passes x ≡ false)
      → (w : List Token) (x : Tree) → ex.one_operation S within free table R w x → none_opens free w ≡ true → passes x ≡ false
  one_none table R h w x (inl r) n = h w x r n
  one_none table R h w x (inr r) n = as_it x r.5.2.0 r.5.5.1 (operation_none table R r.2 r.5.0 r.5.2 r.5.4)

  pub or_none : (w : List Token) (x : Tree) → ex.or S within free w x → none_opens free w ≡ true → passes x ≡ false
  or_none =
      chain_none o.or_operator (ex.and S within free)
      (chain_none o.and_operator (ex.cmp S within free)
      (one_none o.cmp_operator (ex.shift S within free)
      (chain_none o.shift_operator (ex.sum S within free)
      (chain_none o.sum_operator (ex.prod S within free) (chain_none o.prod_operator (ex.unary S within free) unary_none)))))

none_in : (n : ℕ) (within : Within) (free : Bool) (w : List Token) (x : Tree) → Spells_in n (Or within free) w x → none_opens free w ≡ true → passes x ≡ false
none_in zero within free w x r m = absurd r
none_in (suc n) within free w x r m = or_none (Spells_in n) within free w x r m

values_none : (n : ℕ) (within : Within) (free : Bool) (w : List Token) (xs : List Tree) → many (comma >> Spells_in n (Or within free)) w xs → none_opens free w ≡ true → any_passes xs ≡ false
values_none n within free w [] r m = refl
values_none n within free w (x ∷ xs) r m =
    let front = ahead free w r.0 r.1 r.2 m in
    let value = none_in n within free r.3.1 x r.3.5 (after free r.0 r.3.0 r.3.1 r.3.3 front) in
    let rest = values_none n within free r.1 xs r.4 (after free w r.0 r.1 r.2 m) in
    ap (λ b. b || any_passes xs) value ∙ rest

listed_none : (n : ℕ) (within : Within) (free : Bool) (w : List Token) (xs : List Tree) → listed (Spells_in n (Or within free)) w xs → none_opens free w ≡ true → any_passes xs ≡ false
listed_none n within free w xs r m =
    let value = none_in n within free r.0 r.2 r.4 (ahead free w r.0 r.1 r.3 m) in
    let behind = after free w r.0 r.1 r.3 m in
    let rest = values_none n within free r.5.0 r.5.2 r.5.4 (ahead free r.1 r.5.0 r.5.1 r.5.3 behind) in
    subst (λ ys. any_passes ys ≡ false) (sym r.5.5.1) (ap (λ b. b || any_passes r.5.2) value ∙ rest)

pub do_is_not_theirs : DoIsNotTheirs
do_is_not_theirs n within w xs (begins, r) m = listed_none n within false w xs r m

pub no_command_inside : NoCommandInside
no_command_inside n within free w xs r m = listed_none n within true w xs r m

-- What an operand tells of the tokens that spell it.
use Rattle.std.proofs.Common.{◌≡◌, ℕ, Bool, true, false, ◌||◌, List, [], ◌∷◌, ◌++◌, ◌⊎◌, inl, inr, refl, sym, ap, subst, ◌∙◌, append_assoc}
use Rattle.std.specs.Prelude.{Option, Some, None}
use Rattle.std.specs.Str.{bytes_eq}
use Rattle.std.proofs.lemmas.Bool.{or_cases, or_left, or_right}
use Rattle.std.proofs.lemmas.List.{append-nil}
use Rattle.std.proofs.lemmas.Slice.Eq.{bytes_eq-Decides}
use Rattle.cr_syntax.specs.declared.look.TokenLook.{TokenLook}
use Rattle.cr_syntax.specs.declared.look.TokenLook.TheVariants as l
use Rattle.cr_syntax.specs.declared.token.Token.{Token}
use Rattle.cr_syntax.specs.declared.token.TokenKind.TheVariants as k
use Rattle.cr_grammar.specs.declared.tree.Tree.{Tree}
use Rattle.cr_grammar.specs.declared.tree.Tree.TheVariants as tree
use Rattle.cr_grammar.specs.declared.within.Within.{Within}
use Rattle.cr_grammar.specs.declared.word.Word.{Word}
use Rattle.cr_grammar.specs.Forms.{Form, ◌>>◌, maybe, or_none, word, ident, tight, parenthesized, listed}
use Rattle.cr_grammar.specs.Operators as names
use Rattle.cr_grammar.specs.declared.wanted.Wanted.{Wanted}
use Rattle.cr_grammar.specs.declared.wanted.Wanted.TheVariants.{Or}
use Rattle.cr_grammar.specs.Expressions as ex
use Rattle.cr_readers.specs.declared.operand.Operand.{Operand}
use Rattle.cr_readers.specs.declared.operand.Operand.TheVariants.{Name, Field, Element, Variable, Yielding, Above, Passing, Whole}
use Rattle.cr_readers.specs.Operand.{whole, named, linked, indexed, yielded, above}
use Rattle.cr_exact.proofs.Forms.{all_read, parenthesized_map, listed_one, one_listed}
use Rattle.cr_exact.proofs.Heads.{led_held_at}
use Rattle.cr_descent.proofs.Operands as operands
use Rattle.cr_descent.proofs.PostfixForms as postfix
use Rattle.cr_descent.proofs.PostfixForms.{postfix_tree, tree_postfix, postfix_more, last_link}

module _ (S : Wanted → Form Tree) (within : Within) (free : Bool) where
  abbrev Arguments : Form (Option (List Tree))
  Arguments = postfix.Arguments S within free

  abbrev Link : Operand → Form Operand
  Link = postfix.Link S within free

  -- ---- which operands are spelled how

  -- what is neither a name alone nor ends with a link that tells
  abbrev is_other : Operand → Bool
  is_other (Variable name) = true
  is_other (Yielding at) = true
  is_other (Above at) = true
  is_other (Whole x) = true
  is_other o = false

  as_other : (o p : Operand) → o ≡ p → is_other p ≡ true → is_other o ≡ true
  as_other o p e is = ap is_other e ∙ is

  plain_other : (R : Form Tree) (w : List Token) (o : Operand) → operands.all_of S within free R w o → is_other o ≡ true
  plain_other R w o c = ap is_other c.5.1

  other_yielded : (at : ℕ) (arguments : Option (List Tree)) → is_other (yielded at arguments) ≡ true
  other_yielded at None = refl
  other_yielded at (Some arguments) = refl

  other_above : (at : ℕ) (arguments : Option (List Tree)) → is_other (above at arguments) ≡ true
  other_above at None = refl
  other_above at (Some arguments) = refl

  -- a head is a name, or tells nothing of what it ends with
  pub head_by : (look : TokenLook) (w : List Token) (o : Operand) → operands.primary_by S within free look w o → operands.name S within free w o ⊎ (is_other o ≡ true)
  head_by l.Int32 w o c = inr (plain_other _ w o c)
  head_by l.Int64 w o c = inr (plain_other _ w o c)
  head_by l.Text w o c = inr (plain_other _ w o c)
  head_by l.TextFirst w o c = inr (plain_other _ w o c)
  head_by l.Nil w o c = inr (plain_other _ w o c)
  head_by l.True w o c = inr (plain_other _ w o c)
  head_by l.False w o c = inr (plain_other _ w o c)
  head_by l.KeywordSelf w o (is, c) = inr (plain_other _ w o c)
  head_by l.InstanceVariable w o (is, c) = inr (ap is_other c.5.1)
  head_by l.Ident w o c = inl c
  head_by l.Yield w o (is, c) = inr (as_other o _ c.5.5.1 (other_yielded c.2 c.5.2))
  head_by l.Super w o (is, c) = inr (as_other o _ c.5.5.1 (other_above c.2 c.5.2))
  head_by l.Constant w o c = inr (plain_other _ w o c)
  head_by l.OpenBracket w o c = inr (plain_other _ w o c)
  head_by l.OpenBrace w o c = inr (plain_other _ w o c)
  head_by l.OpenParenthesis w o c = inr (plain_other _ w o c)
  head_by l.Spawn w o c = inr (plain_other _ w o c)
  head_by l.If w o c = inr (plain_other _ w o c)
  head_by l.Unless w o c = inr (plain_other _ w o c)
  head_by l.While w o c = inr (plain_other _ w o c)
  head_by l.Until w o c = inr (plain_other _ w o c)
  head_by l.Case w o c = inr (plain_other _ w o c)
  head_by l.Select w o c = inr (plain_other _ w o c)
  head_by other w o c = absurd c

  -- nothing behind the name
  bare_named : (name found : Word) (arguments : Option (List Tree)) (block : Option Tree) → Name name ≡ named found arguments block → (name ≡ found) × (arguments ≡ None) × (block ≡ None)
  bare_named name found None None e = (cc, refl, refl)
  bare_named name found None (Some block) e = absurd cc
  bare_named name found (Some arguments) block e = absurd cc

  bare_linked : (x : Tree) (name : Word) (y : Tree) (found : Word) (arguments : Option (List Tree)) (block : Option Tree) → Field x name ≡ linked y found arguments block
      → (x ≡ y) × (name ≡ found) × (arguments ≡ None) × (block ≡ None)
  bare_linked x name y found None None e = (cc, cc, refl, refl)
  bare_linked x name y found None (Some block) e = absurd cc
  bare_linked x name y found (Some []) block e = absurd cc
  bare_linked x name y found (Some (value ∷ [])) None e = absurd cc
  bare_linked x name y found (Some (value ∷ [])) (Some block) e = absurd cc
  bare_linked x name y found (Some (value ∷ other ∷ more)) block e = absurd cc

  passing_linked : (name : Word) (x value : Tree) (y : Tree) (found : Word) (arguments : Option (List Tree)) (block : Option Tree) → Passing name x value ≡ linked y found arguments block
      → (x ≡ y) × (name ≡ found) × (arguments ≡ Some (value ∷ [])) × (block ≡ None)
  passing_linked name x value y found None None e = absurd cc
  passing_linked name x value y found None (Some block) e = absurd cc
  passing_linked name x value y found (Some []) block e = absurd cc
  passing_linked name x value y found (Some (other ∷ [])) None e = (cc, cc, cc, refl)
  passing_linked name x value y found (Some (other ∷ [])) (Some block) e = absurd cc
  passing_linked name x value y found (Some (one ∷ other ∷ more)) block e = absurd cc

  -- what a last link with a name tells
  abbrev is_link : Operand → Bool
  is_link (Field x name) = true
  is_link (Passing name x value) = true
  is_link o = false

  no_index : (at : ℕ) (x : Tree) (arguments : List Tree) (question : Option ℕ) → is_link (indexed at x arguments question) ≡ false
  no_index at x arguments None = refl
  no_index at x arguments (Some question) = refl

  no_link : (o p : Operand) → o ≡ p → is_link p ≡ false → is_link o ≡ true → ⊥
  no_link o p e is link = let both : true ≡ false = sym link ∙ ap is_link e ∙ is in cc

  link_called : (z : Operand) (w : List Token) (o : Operand) → Link z w o → is_link o ≡ true → operands.called S within free (whole z) w o
  link_called z w o (inl c) is = c
  link_called z w o (inr (inl c)) is = absurd (no_link o _ c.5.5.1 (no_index c.2.0 (whole z) c.2.1 c.5.2) is)
  link_called z w o (inr (inr (inl c))) is = absurd (no_link o _ c.5.1 refl is)
  link_called z w o (inr (inr (inr (inl c)))) is = absurd (no_link o _ c.5.1 refl is)
  link_called z w o (inr (inr (inr (inr c)))) is = absurd (no_link o _ c.5.1 refl is)

  named_no_link : (name : Word) (arguments : Option (List Tree)) (block : Option Tree) → is_link (named name arguments block) ≡ false
  named_no_link name None None = refl
  named_no_link name None (Some block) = refl
  named_no_link name (Some arguments) block = refl

  other_no_link : (o : Operand) → is_other o ≡ true → is_link o ≡ true → ⊥
  other_no_link (Name name) is link = absurd cc
  other_no_link (Field x name) is link = absurd cc
  other_no_link (Element at x arguments) is link = absurd cc
  other_no_link (Passing name x value) is link = absurd cc
  other_no_link o is link = absurd cc

  head_no_link : (w : List Token) (o : Operand) → operands.primary S within free w o → is_link o ≡ true → ⊥
  head_no_link w o (look, led, c) is = elim (head_by look w o c) [
    | inl r ↦ no_link o _ r.5.5.5.1 (named_no_link r.2 r.5.2 r.5.5.2) is
    | inr other ↦ other_no_link o other is
  ]

  -- a last link with a name, behind a postfix
  called_last : (w : List Token) (o : Operand) → operands.postfix S within free w o → is_link o ≡ true
      → (u : List Token) × (v : List Token) × (z : Operand) × (w ≡ u ++ v) × operands.postfix S within free u z × operands.called S within free (whole z) v o
  called_last w o c is = elim (last_link S within free w o c) [
    | inl p ↦ absurd (head_no_link w o p is)
    | inr (u, v, z, e, d, r) ↦ (u, v, z, e, d, link_called z v o r is)
  ]

  linked_no_name : (x : Tree) (name : Word) (arguments : Option (List Tree)) (block : Option Tree) (found : Word) → Name found ≡ linked x name arguments block → ⊥
  linked_no_name x name None None found e = absurd cc
  linked_no_name x name None (Some block) found e = absurd cc
  linked_no_name x name (Some []) block found e = absurd cc
  linked_no_name x name (Some (value ∷ [])) None found e = absurd cc
  linked_no_name x name (Some (value ∷ [])) (Some block) found e = absurd cc
  linked_no_name x name (Some (value ∷ other ∷ more)) block found e = absurd cc

  indexed_no_name : (at : ℕ) (x : Tree) (arguments : List Tree) (question : Option ℕ) (found : Word) → Name found ≡ indexed at x arguments question → ⊥
  indexed_no_name at x arguments None found e = absurd cc
  indexed_no_name at x arguments (Some question) found e = absurd cc

  link_no_name : (z : Operand) (w : List Token) (found : Word) → Link z w (Name found) → ⊥
  link_no_name z w found (inl c) = linked_no_name (whole z) c.5.2 c.5.5.2 c.5.5.5.2 found c.5.5.5.5.1
  link_no_name z w found (inr (inl c)) = indexed_no_name c.2.0 (whole z) c.2.1 c.5.2 found c.5.5.1
  link_no_name z w found (inr (inr (inl c))) = let e = c.5.1 in absurd cc
  link_no_name z w found (inr (inr (inr (inl c)))) = let e = c.5.1 in absurd cc
  link_no_name z w found (inr (inr (inr (inr c)))) = let e = c.5.1 in absurd cc

  -- ---- a name alone

  bare_ident : (w : List Token) (name : Word) → operands.name S within free w (Name name) → ident w name
  bare_ident w name (a, b, found, e, r, (a', b', arguments, e', m, (a3, b3, block, e3, q, (none, same)))) =
      let is = bare_named name found arguments block same in
      let no_arguments : a' ≡ [] = subst (λ v. Arguments a' v) is.1 m in
      let no_block : a3 ≡ [] = subst (λ v. maybe (ex.block S within free) a3 v) is.2 q in
      let empty : b ≡ [] = e' ∙ ap (λ (t : List Token). t ++ b') no_arguments ∙ all_read b' a3 b3 e3 none ∙ no_block in
      subst (λ t. ident t name) (sym (all_read w a b e empty)) (subst (λ v. ident a v) (sym is.0) r)

  pub name_alone : (w : List Token) (name : Word) → operands.postfix S within free w (Name name) → ident w name
  name_alone w name c = elim (last_link S within free w (Name name) c) [
    | inl (look, led, p) ↦ elim (head_by look w (Name name) p) [
      | inl r ↦ bare_ident w name r
      | inr other ↦ absurd cc
    ]
    | inr (u, v, z, e, d, r) ↦ absurd (link_no_name z v name r)
  ]

  pub alone_name : (w : List Token) (name : Word) → ident w name → operands.postfix S within free w (Name name)
  alone_name w name r = (
    w,
    [],
    Name name,
    sym (append-nil w),
    (l.Ident, led_held_at (λ text. k.Ident text) w w [] name (sym (append-nil w)) r, (w, [], name, sym (append-nil w), r, ([], [], None, refl, refl, ([], [], None, refl, refl, (refl, refl))))),
    (0, (refl, refl)),
  )

  -- ---- `.x` behind a postfix

  abbrev pub dot_name : Form Word
  dot_name = word l.Dot >> ident

  pub field_last : (w : List Token) (x : Tree) (name : Word) → operands.postfix S within free w (Field x name)
      → (u : List Token) × (v : List Token) × (w ≡ u ++ v) × ex.postfix S within free u x × dot_name v name
  field_last w x name c =
      let (u, v, z, e, d, (a, b, at, e0, r, (a', b', found, e', m, (a2, b2, arguments, e2, q, (a3, b3, block, e3, t, (none, same)))))) = called_last w (Field x name) c refl in
      let is = bare_linked x name (whole z) found arguments block same in
      let no_arguments : a2 ≡ [] = subst (λ o. Arguments a2 o) is.2 q in
      let no_block : a3 ≡ [] = subst (λ o. maybe (ex.block S within free) a3 o) is.3 t in
      let empty : b' ≡ [] = e2 ∙ ap (λ (s : List Token). s ++ b2) no_arguments ∙ all_read b2 a3 b3 e3 none ∙ no_block in (
        u,
        v,
        e,
        subst (λ y. ex.postfix S within free u y) (sym is.0) (postfix_tree S within free u z d),
        (a, b, at, e0, r, subst (λ s. ident s name) (sym (all_read b a' b' e' empty)) (subst (λ y. ident a' y) (sym is.1) m)),
      )

  pub last_field : (u v : List Token) (x : Tree) (name : Word) → ex.postfix S within free u x → dot_name v name → operands.postfix S within free (u ++ v) (Field x name)
  last_field u v x name c (a, b, at, e, r, m) =
      let p = tree_postfix S within free u x c in
      postfix_more S within free u v p.0 (Field x name) p.1 (inl (a, b, at, e, r, (b, [], name, sym (append-nil b), m, ([], [], None, refl, refl, ([], [], None, refl, refl, (refl, ap (λ y. Field y name) (sym p.2)))))))

  -- ---- `.f(v)` behind a postfix

  abbrev pub one_value : Form Tree
  one_value = tight (parenthesized (S (Or within true)))

  one_argument : (w : List Token) (value : Tree) → Arguments w (Some (value ∷ [])) → one_value w value
  one_argument w value (is, c) = (is, parenthesized_map (or_none (ex.inside S within free)) (S (Or within true)) w (value ∷ []) value only_one c) where
    only_one : (v : List Token) (z : List Tree) → value ∷ [] ≡ z → or_none (ex.inside S within free) v z → S (Or within true) v value
    only_one v z e (inl r) = listed_one (S (Or within true)) v value (subst (λ y. listed (S (Or within true)) v y) (sym e) r)
    only_one v z e (inr r) = let both : value ∷ [] ≡ [] = e ∙ r.1 in absurd cc

  argument_one : (w : List Token) (value : Tree) → one_value w value → Arguments w (Some (value ∷ []))
  argument_one w value (is, c) = (
    is,
    parenthesized_map (S (Or within true)) (or_none (ex.inside S within free)) w value (value ∷ [])
        (λ v z e r. inl (one_listed (S (Or within true)) v value (subst (λ y. S (Or within true) v y) (sym e) r))) c,
  )

  pub passing_last : (w : List Token) (name : Word) (x value : Tree) → operands.postfix S within free w (Passing name x value)
      → (u : List Token) × (v : List Token) × (t : List Token) × (w ≡ u ++ (v ++ t)) × ex.postfix S within free u x × dot_name v name × one_value t value
  passing_last w name x value c =
      let (u, v, z, e, d, (a, b, at, e0, r, (a', b', found, e', m, (a2, b2, arguments, e2, q, (a3, b3, block, e3, t, (none, same)))))) = called_last w (Passing name x value) c refl in
      let is = passing_linked name x value (whole z) found arguments block same in
      let no_block : a3 ≡ [] = subst (λ o. maybe (ex.block S within free) a3 o) is.3 t in
      let behind : b' ≡ a2 = all_read b' a2 b2 e2 (all_read b2 a3 b3 e3 none ∙ no_block) in (
        u,
        a ++ a',
        a2,
        e ∙ ap (λ (s : List Token). u ++ s) (e0 ∙ ap (λ (s : List Token). a ++ s) (e' ∙ ap (λ (s : List Token). a' ++ s) behind) ∙ sym (append_assoc a a' a2)),
        subst (λ y. ex.postfix S within free u y) (sym is.0) (postfix_tree S within free u z d),
        (a, a', at, refl, r, subst (λ y. ident a' y) (sym is.1) m),
        one_argument a2 value (subst (λ o. Arguments a2 o) is.2 q),
      )

  pub last_passing : (u v t : List Token) (name : Word) (x value : Tree) → ex.postfix S within free u x → dot_name v name → one_value t value
      → operands.postfix S within free (u ++ (v ++ t)) (Passing name x value)
  last_passing u v t name x value c (a, b, at, e, r, m) q =
      let p = tree_postfix S within free u x c in
      postfix_more S within free u (v ++ t) p.0 (Passing name x value) p.1
      (inl (
        a,
        b ++ t,
        at,
        ap (λ (s : List Token). s ++ t) e ∙ append_assoc a b t,
        r,
        (b, t, name, refl, m, (t, [], Some (value ∷ []), sym (append-nil t), argument_one t value q, ([], [], None, refl, refl, (refl, ap (λ y. Passing name y value) (sym p.2))))),
      ))

  -- ---- what a clause of `select` waits for

  abbrev pub is_receive : List ℕ → Bool
  is_receive text = bytes_eq text names.receive_name || bytes_eq text names.receive_question_name

  receives : (text : List ℕ) → is_receive text ≡ true → (text ≡ names.receive_name) ⊎ (text ≡ names.receive_question_name)
  receives text is = elim (or_cases _ _ is) [
    | inl e ↦ inl ((bytes_eq-Decides text names.receive_name).0 e)
    | inr e ↦ inr ((bytes_eq-Decides text names.receive_question_name).0 e)
  ]

  received : (text : List ℕ) → (text ≡ names.receive_name) ⊎ (text ≡ names.receive_question_name) → is_receive text ≡ true
  received text (inl e) = or_left _ _ ((bytes_eq-Decides text names.receive_name).1 e)
  received text (inr e) = or_right _ _ ((bytes_eq-Decides text names.receive_question_name).1 e)

  pub field_receive : (w : List Token) (x : Tree) (name : Word) → operands.postfix S within free w (Field x name) → is_receive name.text ≡ true → ex.receive S within free w (whole (Field x name))
  field_receive w x name c is =
      let (u, v, e, p, (a, b, at, e', r, m)) = field_last w x name c in
      (u, v, x, e, p, (a, b, at, e', r, (b, [], name, sym (append-nil b), m, (receives name.text is, (refl, refl)))))

  pub receive_field : (w : List Token) (y : Tree) → ex.receive S within free w y
      → (x : Tree) × (name : Word) × operands.postfix S within free w (Field x name) × (is_receive name.text ≡ true) × (y ≡ whole (Field x name))
  receive_field w y (u, v, x, e, p, (a, b, at, e', r, (a', b', name, e2, m, (is, (none, same))))) = (
    x,
    name,
    subst (λ t. operands.postfix S within free t (Field x name)) (sym e) (last_field u v x name p (a, b, at, e', r, subst (λ t. ident t name) (sym (all_read b a' b' e2 none)) m)),
    received name.text is,
    same,
  )

  pub passing_send : (w : List Token) (name : Word) (x value : Tree) → operands.postfix S within free w (Passing name x value) → bytes_eq name.text names.send_name ≡ true
      → ex.send S within free w (whole (Passing name x value))
  passing_send w name x value c is =
      let (u, v, t, e, p, (a, b, at, e', r, m), q) = passing_last w name x value c in
      let text = (bytes_eq-Decides name.text names.send_name).0 is in (
        u,
        v ++ t,
        x,
        e,
        p,
        (
          a,
          b ++ t,
          at,
          ap (λ (s : List Token). s ++ t) e' ∙ append_assoc a b t,
          r,
          (
            b,
            t,
            name.at,
            refl,
            (m.0, m.1, (m.2.0 ∙ ap (λ n. k.Ident n) text, m.2.1)),
            (
              t,
              [],
              value,
              sym (append-nil t),
              q,
              (refl, ap (λ n. tree.Call name.at (Some x) n (value ∷ []) None) text),
            ),
          ),
        ),
      )

  pub send_passing : (w : List Token) (y : Tree) → ex.send S within free w y
      → (name : Word) × (x : Tree) × (value : Tree) × operands.postfix S within free w (Passing name x value) × (bytes_eq name.text names.send_name ≡ true) × (y ≡ whole (Passing name x value))
  send_passing w y (u, v, x, e, p, (a, b, at, e', r, (a', b', place, e2, m, (t, t', value, e3, q, (none, same))))) =
      let name : Word = record { at = place; text = names.send_name } in
      let parts : w ≡ u ++ ((a ++ a') ++ t) =
      e ∙ ap (λ (s : List Token). u ++ s) (e' ∙ ap (λ (s : List Token). a ++ s) (e2 ∙ ap (λ (s : List Token). a' ++ s) (all_read b' t t' e3 none)) ∙ sym (append_assoc a a' t)) in (
        name,
        x,
        value,
        subst (λ s. operands.postfix S within free s (Passing name x value)) (sym parts) (last_passing u (a ++ a') t name x value p (a, a', at, refl, r, m) q),
        (bytes_eq-Decides names.send_name names.send_name).1 refl,
        same,
      )

-- What an operand tells of the tokens that spell it, for every grammar of what it holds.
use Rattle.std.proofs.Common.{◌≡◌, ℕ, Bool, true, false, List, [], ◌∷◌, ◌++◌, inl, inr, refl, sym, ap, subst, ◌∙◌}
use Rattle.std.specs.Prelude.{Option, Some, None}
use Rattle.std.proofs.lemmas.List.{append-nil}
use Rattle.cr_syntax.specs.declared.look.TokenLook.{TokenLook}
use Rattle.cr_syntax.specs.declared.look.TokenLook.TheVariants as l
use Rattle.cr_syntax.specs.declared.token.Token.{Token}
use Rattle.cr_syntax.specs.declared.token.TokenKind.TheVariants as k
use Rattle.cr_grammar.specs.declared.tree.Tree.{Tree}
use Rattle.cr_grammar.specs.declared.within.Within.{Within}
use Rattle.cr_grammar.specs.declared.word.Word.{Word}
use Rattle.cr_grammar.specs.Forms.{Form, where_true, maybe, word, instance_variable, tight}
use Rattle.cr_grammar.specs.declared.wanted.Wanted.{Wanted}
use Rattle.cr_grammar.specs.Wanted.{in_object}
use Rattle.cr_grammar.specs.Laws.{first_is}
use Rattle.cr_grammar.specs.Expressions as ex
use Rattle.cr_readers.specs.declared.operand.Operand.{Operand}
use Rattle.cr_readers.specs.declared.operand.Operand.TheVariants.{Field, Element, Variable, Yielding, Above, Passing, Whole}
use Rattle.cr_readers.specs.Operand.{whole, named, linked, indexed, yielded, above}
use Rattle.cr_exact.proofs.Forms.{made_in, all_read}
use Rattle.cr_exact.proofs.Heads.{led_at, led_kind}
use Rattle.cr_descent.proofs.Operands as operands
use Rattle.cr_descent.proofs.PostfixForms as postfix
use Rattle.cr_descent.proofs.OperandForms as operand
use Rattle.cr_descent.proofs.StatementForms as forms

-- ---- which operands are made how

differ : (test : Operand → Bool) (o p : Operand) → o ≡ p → test p ≡ true → test o ≡ false → ⊥
differ test o p e is not = let both : true ≡ false = sym is ∙ sym (ap test e) ∙ not in cc

abbrev is_whole : Operand → Bool
is_whole (Whole x) = true
is_whole o = false

abbrev is_linked : Operand → Bool
is_linked (Field x name) = true
is_linked (Passing name x value) = true
is_linked (Whole x) = true
is_linked o = false

abbrev is_indexed : Operand → Bool
is_indexed (Element at x arguments) = true
is_indexed (Whole x) = true
is_indexed o = false

linked_is : (x : Tree) (name : Word) (arguments : Option (List Tree)) (block : Option Tree) → is_linked (linked x name arguments block) ≡ true
linked_is x name None None = refl
linked_is x name None (Some block) = refl
linked_is x name (Some []) block = refl
linked_is x name (Some (value ∷ [])) None = refl
linked_is x name (Some (value ∷ [])) (Some block) = refl
linked_is x name (Some (value ∷ other ∷ more)) block = refl

indexed_is : (at : ℕ) (x : Tree) (arguments : List Tree) (question : Option ℕ) → is_indexed (indexed at x arguments question) ≡ true
indexed_is at x arguments None = refl
indexed_is at x arguments (Some question) = refl

-- the look by which an operand at the head is led, where the operand tells it
abbrev head_look : Operand → TokenLook
head_look (Variable name) = l.InstanceVariable
head_look (Yielding at) = l.Yield
head_look (Above at) = l.Super
head_look o = l.Ident

named_look : (o : Operand) (name : Word) (arguments : Option (List Tree)) (block : Option Tree) → o ≡ named name arguments block → is_whole o ≡ false → l.Ident ≡ head_look o
named_look o name None None e not = sym (ap head_look e)
named_look o name None (Some block) e not = absurd (differ is_whole o _ e refl not)
named_look o name (Some arguments) block e not = absurd (differ is_whole o _ e refl not)

yielded_look : (o : Operand) (at : ℕ) (arguments : Option (List Tree)) → o ≡ yielded at arguments → is_whole o ≡ false → l.Yield ≡ head_look o
yielded_look o at None e not = sym (ap head_look e)
yielded_look o at (Some arguments) e not = absurd (differ is_whole o _ e refl not)

above_look : (o : Operand) (at : ℕ) (arguments : Option (List Tree)) → o ≡ above at arguments → is_whole o ≡ false → l.Super ≡ head_look o
above_look o at None e not = sym (ap head_look e)
above_look o at (Some arguments) e not = absurd (differ is_whole o _ e refl not)

-- nothing behind `yield`, `super` and `[a]`
bare_yielded : (at place : ℕ) (arguments : Option (List Tree)) → Yielding at ≡ yielded place arguments → (at ≡ place) × (arguments ≡ None)
bare_yielded at place None e = (cc, refl)
bare_yielded at place (Some arguments) e = absurd cc

bare_above : (at place : ℕ) (arguments : Option (List Tree)) → Above at ≡ above place arguments → (at ≡ place) × (arguments ≡ None)
bare_above at place None e = (cc, refl)
bare_above at place (Some arguments) e = absurd cc

bare_indexed : (at : ℕ) (x : Tree) (xs : List Tree) (place : ℕ) (y : Tree) (ys : List Tree) (question : Option ℕ) → Element at x xs ≡ indexed place y ys question
    → (at ≡ place) × (x ≡ y) × (xs ≡ ys) × (question ≡ None)
bare_indexed at x xs place y ys None e = (cc, cc, cc, refl)
bare_indexed at x xs place y ys (Some question) e = absurd cc

module _ (S : Wanted → Form Tree) (within : Within) where
  abbrev P : Form Operand
  P = forms.P S within

  abbrev By : TokenLook → Form Operand
  By = operands.primary_by S within true

  abbrev Link : Operand → Form Operand
  Link = operands.link S within true

  -- ---- heads

  plain_whole : (R : Form Tree) (w : List Token) (o : Operand) → operands.all_of S within true R w o → is_whole o ≡ false → ⊥
  plain_whole R w o c not = differ is_whole o (Whole c.2) c.5.1 refl not

  -- the operand tells by which look it is read
  look_by : (look : TokenLook) (w : List Token) (o : Operand) → By look w o → is_whole o ≡ false → look ≡ head_look o
  look_by l.Int32 w o c not = absurd (plain_whole _ w o c not)
  look_by l.Int64 w o c not = absurd (plain_whole _ w o c not)
  look_by l.Text w o c not = absurd (plain_whole _ w o c not)
  look_by l.TextFirst w o c not = absurd (plain_whole _ w o c not)
  look_by l.Nil w o c not = absurd (plain_whole _ w o c not)
  look_by l.True w o c not = absurd (plain_whole _ w o c not)
  look_by l.False w o c not = absurd (plain_whole _ w o c not)
  look_by l.KeywordSelf w o (is, c) not = absurd (plain_whole _ w o c not)
  look_by l.InstanceVariable w o (is, c) not = sym (ap head_look c.5.1)
  look_by l.Ident w o c not = named_look o c.2 c.5.2 c.5.5.2 c.5.5.5.1 not
  look_by l.Yield w o (is, c) not = yielded_look o c.2 c.5.2 c.5.5.1 not
  look_by l.Super w o (is, c) not = above_look o c.2 c.5.2 c.5.5.1 not
  look_by l.Constant w o c not = absurd (plain_whole _ w o c not)
  look_by l.OpenBracket w o c not = absurd (plain_whole _ w o c not)
  look_by l.OpenBrace w o c not = absurd (plain_whole _ w o c not)
  look_by l.OpenParenthesis w o c not = absurd (plain_whole _ w o c not)
  look_by l.Spawn w o c not = absurd (plain_whole _ w o c not)
  look_by l.If w o c not = absurd (plain_whole _ w o c not)
  look_by l.Unless w o c not = absurd (plain_whole _ w o c not)
  look_by l.While w o c not = absurd (plain_whole _ w o c not)
  look_by l.Until w o c not = absurd (plain_whole _ w o c not)
  look_by l.Case w o c not = absurd (plain_whole _ w o c not)
  look_by l.Select w o c not = absurd (plain_whole _ w o c not)
  look_by other w o c not = absurd c

  no_last : (z : Operand) (w : List Token) (o : Operand) → Link z w o → is_linked o ≡ false → is_indexed o ≡ false → ⊥
  no_last z w o (inl c) not never = differ is_linked o _ c.5.5.5.5.1 (linked_is (whole z) c.5.2 c.5.5.2 c.5.5.5.2) not
  no_last z w o (inr (inl c)) not never = differ is_indexed o _ c.5.5.1 (indexed_is c.2.0 (whole z) c.2.1 c.5.2) never
  no_last z w o (inr (inr (inl c))) not never = differ is_linked o _ c.5.1 refl not
  no_last z w o (inr (inr (inr (inl c)))) not never = differ is_linked o _ c.5.1 refl not
  no_last z w o (inr (inr (inr (inr c)))) not never = differ is_linked o _ c.5.1 refl not

  -- what no link ends with is a head
  head_out : (w : List Token) (o : Operand) → P w o → is_linked o ≡ false → is_indexed o ≡ false → is_whole o ≡ false → By (head_look o) w o
  head_out w o p not never bare = elim (postfix.last_link S within true w o p) [
    | inl (look, led, c) ↦ subst (λ v. By v w o) (look_by look w o c bare) c
    | inr (u, v, z, e, d, r) ↦ absurd (no_last z v o r not never)
  ]

  head_alone : (w : List Token) (o : Operand) → operands.primary S within true w o → P w o
  head_alone w o c = (w, [], o, sym (append-nil w), c, (0, (refl, refl)))

  -- ---- instance variables

  variable_out : (w : List Token) (name : Word) → P w (Variable name) → where_true (in_object within) instance_variable w name
  variable_out w name p =
      let (is, (a, b, found, e, r, (none, same))) = head_out w (Variable name) p refl refl refl in
      let name_is : name ≡ found = cc in
      (is, subst (λ t. instance_variable t name) (sym (all_read w a b e none)) (subst (λ y. instance_variable a y) (sym name_is) r))

  variable_back : (w : List Token) (name : Word) → where_true (in_object within) instance_variable w name → P w (Variable name)
  variable_back w name (is, r) =
      head_alone w (Variable name) (
        l.InstanceVariable,
        led_kind (k.InstanceVariable name.text) w w [] r.0 (sym (append-nil w)) r.1 r.2.0,
        (is, made_in instance_variable (λ y. Variable y) w name r),
      )

  -- ---- `yield` and `super` alone

  bare_word : (look : TokenLook) (make : ℕ → Option (List Tree) → Operand) (w : List Token) (o : Operand) (at : ℕ)
      → ((place : ℕ) (arguments : Option (List Tree)) → o ≡ make place arguments → (at ≡ place) × (arguments ≡ None))
      → operands.passed_on S within true look make w o → word look w at
  bare_word look make w o at tells (a, b, place, e, r, (a', b', arguments, e', m, (none, same))) =
      let is = tells place arguments same in
      let no_arguments : a' ≡ [] = subst (λ v. operands.arguments S within true a' v) is.1 m in
      let empty : b ≡ [] = all_read b a' b' e' none ∙ no_arguments in
      subst (λ t. word look t at) (sym (all_read w a b e empty)) (subst (λ v. word look a v) (sym is.0) r)

  word_bare : (look : TokenLook) (make : ℕ → Option (List Tree) → Operand) (w : List Token) (at : ℕ) → word look w at → operands.passed_on S within true look make w (make at None)
  word_bare _ make w at r = (w, [], at, sym (append-nil w), r, ([], [], None, refl, refl, (refl, refl)))

  yielding_out : (w : List Token) (at : ℕ) → P w (Yielding at) → where_true within.method (word l.Yield) w at
  yielding_out w at p =
      let (is, c) = head_out w (Yielding at) p refl refl refl in
      (is, bare_word l.Yield yielded w (Yielding at) at (bare_yielded at) c)

  yielding_back : (w : List Token) (at : ℕ) → where_true within.method (word l.Yield) w at → P w (Yielding at)
  yielding_back w at (is, r) = head_alone w (Yielding at) (l.Yield, led_at l.Yield w w [] at (sym (append-nil w)) r, (is, word_bare l.Yield yielded w at r))

  above_out : (w : List Token) (at : ℕ) → P w (Above at) → where_true within.method (word l.Super) w at
  above_out w at p =
      let (is, c) = head_out w (Above at) p refl refl refl in
      (is, bare_word l.Super above w (Above at) at (bare_above at) c)

  above_back : (w : List Token) (at : ℕ) → where_true within.method (word l.Super) w at → P w (Above at)
  above_back w at (is, r) = head_alone w (Above at) (l.Super, led_at l.Super w w [] at (sym (append-nil w)) r, (is, word_bare l.Super above w at r))

  -- ---- `[a]` behind a postfix

  element_head : (look : TokenLook) (w : List Token) (at : ℕ) (x : Tree) (xs : List Tree) → By look w (Element at x xs) → ⊥
  element_head look w at x xs c = elim (operand.head_by S within true look w (Element at x xs) c) [
    | inl r ↦ named_element r.2 r.5.2 r.5.5.2 r.5.5.5.1
    | inr other ↦ absurd cc
  ] where
    named_element : (name : Word) (arguments : Option (List Tree)) (block : Option Tree) → Element at x xs ≡ named name arguments block → ⊥
    named_element name None None e = absurd cc
    named_element name None (Some block) e = absurd cc
    named_element name (Some arguments) block e = absurd cc

  element_link : (z : Operand) (w : List Token) (at : ℕ) (x : Tree) (xs : List Tree) → Link z w (Element at x xs) → operands.at_index S within true (whole z) w (Element at x xs)
  element_link z w at x xs (inl c) = absurd (differ is_linked (Element at x xs) _ c.5.5.5.5.1 (linked_is (whole z) c.5.2 c.5.5.2 c.5.5.5.2) refl)
  element_link z w at x xs (inr (inl c)) = c
  element_link z w at x xs (inr (inr (inl c))) = absurd (differ is_linked (Element at x xs) _ c.5.1 refl refl)
  element_link z w at x xs (inr (inr (inr (inl c)))) = absurd (differ is_linked (Element at x xs) _ c.5.1 refl refl)
  element_link z w at x xs (inr (inr (inr (inr c)))) = absurd (differ is_linked (Element at x xs) _ c.5.1 refl refl)

  abbrev Indexed : List Token → ℕ → Tree → List Tree → Type 0
  Indexed w at x xs = (a : List Token) × (b : List Token) × (w ≡ a ++ b) × ex.postfix S within true a x × ex.indices S within true b (at, xs)

  element_last : (w u v : List Token) (z : Operand) (at : ℕ) (x : Tree) (xs : List Tree) → w ≡ u ++ v → P u z → operands.at_index S within true (whole z) v (Element at x xs) → Indexed w at x xs
  element_last w u v z at x xs e d (a, b, found, e', r, (a', b', question, e2, m, (none, same))) =
      let is = bare_indexed at x xs found.0 (whole z) found.1 question same in
      let no_question : a' ≡ [] = subst (λ q. maybe (tight (word l.Question)) a' q) is.3 m in
      let empty : b ≡ [] = all_read b a' b' e2 none ∙ no_question in
      let indices : ex.indices S within true a (at, xs) = subst (λ n. ex.indices S within true a (n, xs)) (sym is.0) (subst (λ ys. ex.indices S within true a (found.0, ys)) (sym is.2) r) in (
        u,
        v,
        e,
        subst (λ y. ex.postfix S within true u y) (sym is.1) (postfix.postfix_tree S within true u z d),
        subst (λ t. ex.indices S within true t (at, xs)) (sym (all_read v a b e' empty)) indices,
      )

  element_out : (w : List Token) (at : ℕ) (x : Tree) (xs : List Tree) → P w (Element at x xs) → Indexed w at x xs
  element_out w at x xs p = elim (postfix.last_link S within true w (Element at x xs) p) [
    | inl (look, led, c) ↦ absurd (element_head look w at x xs c)
    | inr (u, v, z, e, d, r) ↦ element_last w u v z at x xs e d (element_link z v at x xs r)
  ]

  element_back : (a b : List Token) (at : ℕ) (x : Tree) (xs : List Tree) → ex.postfix S within true a x → ex.indices S within true b (at, xs) → P (a ++ b) (Element at x xs)
  element_back a b at x xs c r =
      let p = postfix.tree_postfix S within true a x c in
      postfix.postfix_more S within true a b p.0 (Element at x xs) p.1
      (inr (inl (b, [], (at, xs), sym (append-nil b), r, ([], [], None, refl, refl, (refl, ap (λ y. Element at y xs) (sym p.2))))))

  -- ---- first tokens

  look_begins : (free : Bool) (look : TokenLook) (w : List Token) (o : Operand) → operands.primary_by S within free look w o → forms.is_postfix_look look ≡ true
  look_begins free l.Return w o c = absurd c
  look_begins free l.Next w o c = absurd c
  look_begins free l.Break w o c = absurd c
  look_begins free l.Bang w o c = absurd c
  look_begins free l.Minus w o c = absurd c
  look_begins free other w o c = refl

  -- A postfix begins with none of the words that begin another statement, nor with an operator.
  pub postfix_begins : (free : Bool) (w : List Token) (x : Tree) → ex.postfix S within free w x → first_is forms.is_postfix_look w ≡ true
  postfix_begins free w x c =
      let (o, (a, b, z, e, (look, (t, rest, one, is), q), more), same) = postfix.tree_postfix S within free w x c in
      ap (first_is forms.is_postfix_look) (e ∙ ap (λ (s : List Token). s ++ b) one) ∙ ap forms.is_postfix_look is ∙ look_begins free look a z q

  pub apart : forms.Apart S within
  apart = record {
    tree_of = postfix.postfix_tree S within true;
    operand_of = postfix.tree_postfix S within true;
    name_out = operand.name_alone S within true;
    name_back = operand.alone_name S within true;
    field_out = operand.field_last S within true;
    field_back = operand.last_field S within true;
    element_out = element_out;
    element_back = element_back;
    variable_out = variable_out;
    variable_back = variable_back;
    yielding_out = yielding_out;
    yielding_back = yielding_back;
    above_out = above_out;
    above_back = above_back;
    begins = postfix_begins true;
  }

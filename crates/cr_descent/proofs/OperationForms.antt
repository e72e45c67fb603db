-- The grammar of operations, each level as its first operand and what follows that.
use Rattle.std.proofs.Common.{◌≡◌, ℕ, zero, suc, Bool, true, false, not, ◌&&◌, List, [], ◌∷◌, ◌++◌, inl, inr, refl, sym, ap, subst, ◌∙◌, append_assoc}
use Rattle.std.specs.Prelude.{IsTrue, Option, Some, None}
use Rattle.std.proofs.lemmas.List.{append-nil}
use Rattle.cr_syntax.specs.declared.look.TokenLook.{TokenLook}
use Rattle.cr_syntax.specs.declared.look.TokenLook.TheVariants as l
use Rattle.cr_syntax.specs.declared.token.Token.{Token}
use Rattle.cr_syntax.specs.Look.{look_of}
use Rattle.cr_grammar.specs.declared.operator.Binary.{Binary}
use Rattle.cr_grammar.specs.declared.tree.Tree.{Tree}
use Rattle.cr_grammar.specs.declared.tree.Tree.TheVariants as tree
use Rattle.cr_grammar.specs.declared.within.Within.{Within}
use Rattle.cr_grammar.specs.Forms.{Form, nothing, ◌>>=◌, ◌>>◌, ◌<|>◌, passing, repeated, repeated_of, one, with_last, last_look, seps}
use Rattle.cr_grammar.specs.Operators as o
use Rattle.cr_grammar.specs.declared.wanted.Wanted.{Wanted}
use Rattle.cr_grammar.specs.Laws.{first_is, begins_or}
use Rattle.cr_grammar.specs.Expressions as ex
use Rattle.cr_grammar.proofs.First.{behind, led, postfix_first}
use Rattle.cr_readers.specs.Reader.{passes}
use Rattle.cr_readers.specs.declared.operand.Operator.{Operator}
use Rattle.cr_readers.specs.Operations.{operator_of, is_spaced}
use Rattle.cr_exact.proofs.Tokens.{some_one}
use Rattle.cr_exact.proofs.Forms.{Included, bind_out, bind_in, included_bind, made_out, made_in, Real, last_behind, begins_some, append_none}

-- ---- the look of the last token

-- a tree, and the look of its last token
abbrev pub Ended : Type 0
Ended = Tree × TokenLook

-- ---- levels of operators

module _ (S : Wanted → Form Tree) (within : Within) (free : Bool) where
  abbrev First : Form Tree
  First = ex.unary S within free

  abbrev operation : (TokenLook → Option Binary) → Form Tree → Ended → Form Ended
  operation = ex.operation S within free

  -- operations to the left
  abbrev pub chain : (TokenLook → Option Binary) → Form Tree → Ended → Form Ended
  chain table R = repeated (operation table R)

  -- one operation, or none
  abbrev pub at_most_one : (TokenLook → Option Binary) → Form Tree → Ended → Form Ended
  at_most_one table R x = operation table R x <|> nothing x

  module _ (table : TokenLook → Option Binary) (R : Form Tree) (real : Real R) where
    operation_look : (x u : Ended) (w : List Token) → operation table R x w u → (a : List Token) → u.1 ≡ last_look (a ++ w)
    operation_look x u w c a =
        let d = c.1 in
        let n = made_out (with_last R) (λ (y : Ended). let z : Ended = (tree.Binary d.2.0 d.2.1 x.0 y.0, y.1) in z) d.1 u d.5 in
        ap (λ (v : Ended). v.1) n.2 ∙ n.1.1 ∙ sym (last_behind (a ++ d.0) d.1 (real d.1 n.0.0 n.1.0))
        ∙ ap last_look (append_assoc a d.0 d.1 ∙ ap (λ (t : List Token). a ++ t) (sym d.3))

    repeated_look : (n : ℕ) (x z : Ended) (w a : List Token) → repeated_of n (operation table R) x w z → x.1 ≡ last_look a → z.1 ≡ last_look (a ++ w)
    repeated_look zero x z w a c is =
        ap (λ (v : Ended). v.1) c.1 ∙ is ∙ ap last_look (sym (append-nil a) ∙ ap (λ (t : List Token). a ++ t) (sym c.0))
    repeated_look (suc n) x z w a c is =
        repeated_look n c.2 z c.1 (a ++ c.0) c.5 (operation_look x c.2 c.0 c.4 a) ∙ ap last_look (append_assoc a c.0 c.1 ∙ ap (λ (t : List Token). a ++ t) (sym c.3))

    -- What the line spells is an operand and what follows it, with the look of the last token.
    pub chain_out : Included (with_last (ex.operations S within free table R)) (with_last R >>= chain table R)
    chain_out w z c =
        let d = c.0 in
        let n = made_out (repeated (operation table R) d.2) (λ (y : Ended). y.0) d.1 z.0 d.5 in
        let look : z.1 ≡ n.0.1 = c.1 ∙ ap last_look d.3 ∙ sym (repeated_look n.1.0 d.2 n.0 d.1 d.0 n.1.1 d.4.1) in
        let same : n.0 ≡ z = λ i. (sym n.2 i, sym look i) in
        (d.0, d.1, d.2, d.3, d.4, subst (λ v. repeated (operation table R) d.2 d.1 v) same n.1)

    pub chain_in : Included (with_last R >>= chain table R) (with_last (ex.operations S within free table R))
    chain_in w z c = (
      (c.0, c.1, c.2, c.3, c.4, made_in (repeated (operation table R) c.2) (λ (y : Ended). y.0) c.1 z c.5),
      repeated_look c.5.0 c.2 z c.1 c.0 c.5.1 c.4.1 ∙ ap last_look (sym c.3),
    )

    pub single_out : Included (with_last (ex.one_operation S within free table R)) (with_last R >>= at_most_one table R)
    single_out w z (inl r, is) = (w, [], z, sym (append-nil w), (r, is), inr (refl, refl))
    single_out w z (inr d, is) =
        let n = made_out (operation table R d.2) (λ (y : Ended). y.0) d.1 z.0 d.5 in
        let look : z.1 ≡ n.0.1 = is ∙ ap last_look d.3 ∙ sym (operation_look d.2 n.0 d.1 n.1 d.0) in
        let same : n.0 ≡ z = λ i. (sym n.2 i, sym look i) in
        (d.0, d.1, d.2, d.3, d.4, inl (subst (λ v. operation table R d.2 d.1 v) same n.1))

    pub single_in : Included (with_last R >>= at_most_one table R) (with_last (ex.one_operation S within free table R))
    single_in w z (a, b, x, e, r, inl c) =
        (inr (a, b, x, e, r, made_in (operation table R x) (λ (y : Ended). y.0) b z c), operation_look x z b c a ∙ ap last_look (sym e))
    single_in w z (a, b, x, e, r, inr c) =
        let whole : w ≡ a = e ∙ ap (λ (t : List Token). a ++ t) c.0 ∙ append-nil a in
        (inl (subst (λ v. R v z.0) (sym whole) (subst (λ (v : Ended). R a v.0) (sym c.1) r.0)), ap (λ (v : Ended). v.1) c.1 ∙ r.1 ∙ ap last_look (sym whole))

  -- ---- a level: its first operand, and what follows that

  -- a line L of the grammar, and the form F of what follows its first operand
  pub record Splits (L : Form Tree) (F : Ended → Form Ended) : Type 0 where
    pub out : Included (with_last L) (with_last First >>= F)
    pub back : Included (with_last First >>= F) (with_last L)
    pub none : (x : Ended) → F x [] x

  pub first_begins : (w : List Token) (x : Tree) → First w x → first_is (begins_or within) w ≡ true
  first_begins w x (inl r) = led (begins_or within) l.Bang w r.0 r.1 r.2 r.3 r.4 refl
  first_begins w x (inr (inl r)) = led (begins_or within) l.Minus w r.0 r.1 r.2 r.3 r.4 refl
  first_begins w x (inr (inr r)) = postfix_first S within free w x r

  pub level_begins : (L : Form Tree) (F : Ended → Form Ended) → Splits L F → (w : List Token) (x : Tree) → L w x → first_is (begins_or within) w ≡ true
  level_begins L F splits w x r =
      let c = splits.out w (x, last_look w) (r, refl) in
      behind (begins_or within) w c.0 c.1 c.3 (first_begins c.0 c.2.0 c.4.0)

  pub first_real : Real First
  first_real w x r = begins_some (begins_or within) w (first_begins w x r)

  pub level_real : (L : Form Tree) (F : Ended → Form Ended) → Splits L F → Real L
  level_real L F splits w x r = begins_some (begins_or within) w (level_begins L F splits w x r)

  -- a level above another: more may follow
  pub level_above : (L : Form Tree) (F M : Ended → Form Ended) (H : Form Tree) → Splits L F
      → Included (with_last H) (with_last L >>= M) → Included (with_last L >>= M) (with_last H) → ((x : Ended) → M x [] x)
      → Splits H (λ x. F x >>= M)
  level_above L F M H splits out back none = record {
    out = λ w z c. bind_out (with_last First) F M w z (included_bind (with_last L) (with_last First >>= F) M splits.out w z (out w z c));
    back = λ w z c. back w z (included_bind (with_last First >>= F) (with_last L) M splits.back w z (bind_in (with_last First) F M w z c));
    none = λ x. ([], [], x, refl, splits.none x, none x);
  }

  pub chain_above : (table : TokenLook → Option Binary) (L : Form Tree) (F : Ended → Form Ended) → Splits L F
      → Splits (ex.operations S within free table L) (λ x. F x >>= chain table L)
  chain_above table L F splits =
      let real = level_real L F splits in
      level_above L F (chain table L) (ex.operations S within free table L) splits (chain_out table L real) (chain_in table L real) (λ x. (0, (refl, refl)))

  pub single_above : (table : TokenLook → Option Binary) (L : Form Tree) (F : Ended → Form Ended) → Splits L F
      → Splits (ex.one_operation S within free table L) (λ x. F x >>= at_most_one table L)
  single_above table L F splits =
      let real = level_real L F splits in
      level_above L F (at_most_one table L) (ex.one_operation S within free table L) splits (single_out table L real) (single_in table L real) (λ x. inr (refl, refl))

  abbrev pub prod_rest : Ended → Form Ended
  prod_rest = chain o.prod_operator First

  abbrev pub sum_rest : Ended → Form Ended
  sum_rest x = prod_rest x >>= chain o.sum_operator (ex.prod S within free)

  abbrev pub shift_rest : Ended → Form Ended
  shift_rest x = sum_rest x >>= chain o.shift_operator (ex.sum S within free)

  abbrev pub cmp_rest : Ended → Form Ended
  cmp_rest x = shift_rest x >>= at_most_one o.cmp_operator (ex.shift S within free)

  abbrev pub and_rest : Ended → Form Ended
  and_rest x = cmp_rest x >>= chain o.and_operator (ex.cmp S within free)

  -- what follows the first operand of an `or`
  abbrev pub or_rest : Ended → Form Ended
  or_rest x = and_rest x >>= chain o.or_operator (ex.and S within free)

  pub prod_splits : Splits (ex.prod S within free) prod_rest
  prod_splits = record { out = chain_out o.prod_operator First first_real; back = chain_in o.prod_operator First first_real; none = λ x. (0, (refl, refl)) }

  pub sum_splits : Splits (ex.sum S within free) sum_rest
  sum_splits = chain_above o.sum_operator (ex.prod S within free) prod_rest prod_splits

  pub shift_splits : Splits (ex.shift S within free) shift_rest
  shift_splits = chain_above o.shift_operator (ex.sum S within free) sum_rest sum_splits

  pub cmp_splits : Splits (ex.cmp S within free) cmp_rest
  cmp_splits = single_above o.cmp_operator (ex.shift S within free) shift_rest shift_splits

  pub and_splits : Splits (ex.and S within free) and_rest
  and_splits = chain_above o.and_operator (ex.cmp S within free) cmp_rest cmp_splits

  pub or_level : Splits (ex.or S within free) or_rest
  or_level = chain_above o.or_operator (ex.and S within free) and_rest and_splits

  -- An `or` is its first operand and what follows that.
  pub or_splits : (w : List Token) (y : Tree) → ex.or S within free w y → (with_last First >>= or_rest) w (y, last_look w)
  or_splits w y c = or_level.out w (y, last_look w) (c, refl)

  pub or_joins : (w : List Token) (z : Ended) → (with_last First >>= or_rest) w z → ex.or S within free w z.0 × (z.1 ≡ last_look w)
  or_joins w z c = or_level.back w z c

  -- Nothing need follow an operand.
  pub or_rest_none : (x : Ended) → or_rest x [] x
  or_rest_none = or_level.none

-- ---- an operation, as it is read

-- behind an operator that could be a sign the first token is spaced
abbrev pub guarded : {A : Type 0} → Bool → Form A → Form A
guarded true R = passing (passes is_spaced) R
guarded false R = R

pub guard_in : {A : Type 0} (b : Bool) (R : Form A) (w : List Token) (x : A) → (b ≡ true → IsTrue (passes is_spaced w)) → R w x → guarded b R w x
guard_in true R w x is r = (is refl, r)
guard_in false R w x is r = r

guard_out : {A : Type 0} (b : Bool) (R : Form A) (w : List Token) (x : A) → guarded b R w x → R w x × (b ≡ true → IsTrue (passes is_spaced w))
guard_out true R w x r = (r.1, λ is. r.0)
guard_out false R w x r = (r, λ is. absurd cc)

-- what is meant of a name before, a `-`, whether it is spaced, and whether the next token is spaced
spaced_next : (name minus spaced next : Bool) → IsTrue (not (name && (minus && spaced && not next))) → name && (minus && spaced) ≡ true → IsTrue next
spaced_next true true true true h is = refl
spaced_next true true true false h is = absurd cc
spaced_next true true false next h is = absurd cc
spaced_next true false spaced next h is = absurd cc
spaced_next false minus spaced next h is = absurd cc

next_spaced : (name minus spaced next : Bool) → (name && (minus && spaced) ≡ true → IsTrue next) → IsTrue (not (name && (minus && spaced && not next)))
next_spaced true true true true h = refl
next_spaced true true true false h = h refl
next_spaced true true false next h = refl
next_spaced true false spaced next h = refl
next_spaced false minus spaced next h = refl

-- Behind a name a sign is refused, where the next token is tight.
sign_out : (name : Bool) (t : Token) (v : List Token) → (v ≡ [] → ⊥) → IsTrue (not (name && o.is_sign (t ∷ v)))
    → name && (o.is_minus (look_of t.kind) && t.spaced) ≡ true → IsTrue (passes is_spaced v)
sign_out name t [] some h is = absurd (some refl)
sign_out name t (u ∷ v) some h is = spaced_next name _ t.spaced u.spaced h is

sign_in : (name : Bool) (t : Token) (v : List Token) → (v ≡ [] → ⊥) → (name && (o.is_minus (look_of t.kind) && t.spaced) ≡ true → IsTrue (passes is_spaced v))
    → IsTrue (not (name && o.is_sign (t ∷ v)))
sign_in name t [] some h = absurd (some refl)
sign_in name t (u ∷ v) some h = next_spaced name _ t.spaced u.spaced h

pub operator_is : (t : Token) (found : Option Binary) (x : Operator) → operator_of t found ≡ Some x
    → (found ≡ Some x.operator) × (x.at ≡ t.span.first) × (x.spaced_minus ≡ (o.is_minus (look_of t.kind) && t.spaced))
operator_is t None x e = absurd cc
operator_is t (Some operator) x e =
    let same = some_one _ x e in
    (ap (λ (v : Operator). Some v.operator) same, sym (ap (λ (v : Operator). v.at) same), sym (ap (λ (v : Operator). v.spaced_minus) same))

-- an operator, as it is read
abbrev pub found_operator : (TokenLook → Option Binary) → Form Operator
found_operator table = one (λ t found. operator_of t (table (look_of t.kind)) ≡ Some found)

module _ (R : Form Tree) (x : Ended) where
  -- the operand behind an operator
  abbrev pub operand_of : ℕ → Binary → Form Ended
  operand_of at operator = with_last R >>= λ y. nothing (tree.Binary at operator x.0 y.0, y.1)

  -- the same, with the separators before it
  abbrev pub operand_behind : Operator → Form Ended
  operand_behind found = seps >> operand_of found.at found.operator

  abbrev pub operation_read : (TokenLook → Option Binary) → Form Ended
  operation_read table = found_operator table >>= λ found. guarded (o.is_name x.1 && found.spaced_minus) (operand_behind found)

  module _ (real : Real R) where
    operand_real : (at : ℕ) (operator : Binary) → Real (operand_of at operator)
    operand_real at operator w u c e =
        let n = made_out (with_last R) (λ (y : Ended). let z : Ended = (tree.Binary at operator x.0 y.0, y.1) in z) w u c in
        real w n.0.0 n.1.0 e

    pub behind_real : (found : Operator) → Real (operand_behind found)
    behind_real found w u c e = operand_real found.at found.operator c.1 u c.5 (append_none c.0 c.1 (sym c.3 ∙ e)).1

module _ (S : Wanted → Form Tree) (within : Within) (free : Bool) (table : TokenLook → Option Binary) where
  pub operator_out : (w : List Token) (x : ℕ × Binary) → ex.operator S within free table w x
      → (t : Token) × (s : List Token) × (w ≡ t ∷ s) × (table (look_of t.kind) ≡ Some x.1) × (x.0 ≡ t.span.first) × seps s tt
  operator_out w x c =
      let n = made_out seps (λ _. c.2) c.1 x c.5 in
      let t = c.4 in
      let found = subst (λ (v : ℕ × Binary). (table (look_of t.0.kind) ≡ Some v.1) × (v.0 ≡ t.0.span.first)) (sym n.2) t.2 in
      (t.0, c.1, c.3 ∙ ap (λ (v : List Token). v ++ c.1) t.1, found.0, found.1, n.1)

  operator_in : (t : Token) (s : List Token) (x : Binary) → table (look_of t.kind) ≡ Some x → seps s tt → ex.operator S within free table (t ∷ s) (t.span.first, x)
  operator_in t s x is c = (t ∷ [], s, (t.span.first, x), refl, (t, refl, (is, refl)), made_in seps (λ _. (t.span.first, x)) s tt c)

  module _ (R : Form Tree) (real : Real R) (x : Ended) where
    pub operation_out : Included (ex.operation S within free table R x) (operation_read R x table)
    operation_out w u (is, c) =
        let d = operator_out c.0 c.2 c.4 in
        let t = d.0 in
        let v = d.1 ++ c.1 in
        let whole : w ≡ t ∷ v = c.3 ∙ ap (λ (r : List Token). r ++ c.1) d.2 in
        let found : Operator = record { at = t.span.first; operator = c.2.1; spaced_minus = o.is_minus (look_of t.kind) && t.spaced } in
        let rest : operand_of R x found.at found.operator c.1 u = subst (λ at. operand_of R x at c.2.1 c.1 u) d.4 c.5 in
        let behind : operand_behind R x found v u = (d.1, c.1, tt, refl, d.5, rest) in
        let sign = sign_out (o.is_name x.1) t v (λ e. behind_real R x real found v u behind e) (subst (λ r. IsTrue (o.is_operation x.1 r)) whole is) in
        (t ∷ [], v, found, whole, (t, refl, ap (operator_of t) d.3), guard_in (o.is_name x.1 && found.spaced_minus) (operand_behind R x found) v u sign behind)

    pub operation_in : Included (operation_read R x table) (ex.operation S within free table R x)
    operation_in w u (a, v, found, e, (t, one_, is), c) =
        let whole : w ≡ t ∷ v = e ∙ ap (λ (r : List Token). r ++ v) one_ in
        let p = operator_is t (table (look_of t.kind)) found is in
        let g = guard_out (o.is_name x.1 && found.spaced_minus) (operand_behind R x found) v u c in
        let d = g.0 in
        let sign = sign_in (o.is_name x.1) t v (λ e. behind_real R x real found v u d e) (λ b. g.1 (ap (λ s. o.is_name x.1 && s) p.2 ∙ b)) in (
          subst (λ r. IsTrue (o.is_operation x.1 r)) (sym whole) sign,
          (
            t ∷ d.0,
            d.1,
            (t.span.first, found.operator),
            whole ∙ ap (λ (r : List Token). t ∷ r) d.3,
            operator_in t d.0 found.operator p.0 d.4,
            subst (λ at. operand_of R x at found.operator d.1 u) p.1 d.5,
          ),
        )

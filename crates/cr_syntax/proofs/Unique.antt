-- A source has at most one list of tokens or one fault.
use Rattle.std.proofs.Common.{◌≡◌, ℕ, ◌<◌, ◌≤◌, Bool, true, false, List, [], ◌∷◌, length, take, Option, Some, None, inl, inr, sym, ap, subst, ◌∙◌, arith}
use Rattle.std.proofs.lemmas.Bool.{cases_lt}
use Rattle.std.specs.Str.Lossy.{utf8_valid_len}
use Rattle.cr_syntax.specs.declared.fault.LexFault.{LexFault}
use Rattle.cr_syntax.specs.declared.fault.LexFault.TheVariants as fault
use Rattle.cr_syntax.specs.declared.token.Token.{Token}
use Rattle.cr_syntax.specs.declared.token.TokenKind.{TokenKind}
use Rattle.cr_syntax.specs.Lexes.{Before, start, behind, place_of, spells, IsToken, IsEnd, LexesFrom, TextLexes}
use Rattle.cr_syntax.specs.Faults.{is_open_string, IsStuck, FailsFrom, TextFails, FrontFails}
use Rattle.cr_syntax.specs.Laws.{AtMostOneList, AtMostOneFault, NeverBoth}

abbrev token : TokenKind → ℕ → ℕ → Bool → Token
token kind first past spaced = record { kind = kind; span = record { first = first; past = past }; spaced = spaced }

token_same : (t u : Token) → t.kind ≡ u.kind → t.span.first ≡ u.span.first → t.span.past ≡ u.span.past → t.spaced ≡ u.spaced → t ≡ u
token_same t u kind first past spaced =
    ap (λ (k : TokenKind). token k t.span.first t.span.past t.spaced) kind
    ∙ ap (λ (n : ℕ). token u.kind n t.span.past t.spaced) first
    ∙ ap (λ (n : ℕ). token u.kind u.span.first n t.spaced) past
    ∙ ap (token u.kind u.span.first u.span.past) spaced

no_kind : {A : Type 0} (o : Option TokenKind) (kind : TokenKind) → o ≡ Some kind → o ≡ None → A
no_kind o kind some none = absurd cc

same_kind : (k l : TokenKind) → Some k ≡ Some l → k ≡ l
same_kind k l e = cc

module _ (source : List ℕ) (before : Before) (at : ℕ) where
  one_end : (t u : Token) → IsEnd source before at t → IsEnd source before at u → t ≡ u
  one_end t u p q = token_same t u (p.kind ∙ sym q.kind) (p.first ∙ sym q.first) (p.past ∙ sym q.past) (p.spaced ∙ sym q.spaced)

  one_past : (t u : Token) → IsToken source before at t → IsToken source before at u → t.span.past ≡ u.span.past
  one_past t u p q = elim (cases_lt t.span.past u.span.past) [
    | inl less ↦ no_kind (spells source before at u.span.past) u.kind q.form (p.longest u.span.past less q.within)
    | inr most ↦ elim (cases_lt u.span.past t.span.past) [
      | inl less ↦ no_kind (spells source before at t.span.past) t.kind p.form (q.longest t.span.past less p.within)
      | inr same ↦ omega arith
    ]
  ]

  one_token : (t u : Token) → IsToken source before at t → IsToken source before at u → t ≡ u
  one_token t u p q =
      let past : t.span.past ≡ u.span.past = one_past t u p q in
      let kind : t.kind ≡ u.kind = same_kind t.kind u.kind (sym p.form ∙ ap (spells source before at) past ∙ q.form) in
      token_same t u kind (p.first ∙ sym q.first) past (p.spaced ∙ sym q.spaced)

  no_end : {A : Type 0} (t u : Token) → IsEnd source before at t → IsToken source before at u → A
  no_end t u p q = absurd (let at_end : place_of source at ≡ length source = p.at_end in
      let first : u.span.first ≡ place_of source at = q.first in
      let some : u.span.first < u.span.past = q.some in
      let within : u.span.past ≤ length source = q.within in omega arith)

  no_stuck : {A : Type 0} (t : Token) (f : LexFault) → IsToken source before at t → IsStuck source before at f → A
  no_stuck t f p q = no_kind (spells source before at t.span.past) t.kind p.form (q.none t.span.past p.within)

one_list : (source : List ℕ) (ts us : List Token) (before : Before) (at : ℕ) → LexesFrom source before at ts → LexesFrom source before at us → ts ≡ us
one_list source [] us before at p q = absurd p
one_list source (t ∷ ts) [] before at p q = absurd q
one_list source (t ∷ ts) (u ∷ us) before at (inl e) (inl f) = cons_same (one_end source before at t u e.0 f.0) (e.1 ∙ sym f.1)
  where
    cons_same : t ≡ u → ts ≡ us → t ∷ ts ≡ u ∷ us
    cons_same p q = cc
one_list source (t ∷ ts) (u ∷ us) before at (inl e) (inr f) = no_end source before at t u e.0 f.0
one_list source (t ∷ ts) (u ∷ us) before at (inr e) (inl f) = no_end source before at u t f.0 e.0
one_list source (t ∷ ts) (u ∷ us) before at (inr e) (inr f) =
    let same : u ≡ t = one_token source before at u t f.0 e.0 in
    let rest : ts ≡ us = one_list source ts us (behind before t) t.span.past e.1 (subst (λ (v : Token). LexesFrom source (behind before v) v.span.past us) same f.1) in
    cc

never_both : (source : List ℕ) (ts us : List Token) (f : LexFault) (before : Before) (at : ℕ) → LexesFrom source before at ts → FailsFrom source before at us f → ⊥
never_both source [] us f before at p q = p
never_both source (t ∷ ts) [] f before at (inl e) q = q.is_open e.0.at_end e.0.closed
never_both source (t ∷ ts) [] f before at (inr e) q = no_stuck source before at t f e.0 q
never_both source (t ∷ ts) (u ∷ us) f before at (inl e) q = no_end source before at t u e.0 q.0
never_both source (t ∷ ts) (u ∷ us) f before at (inr e) q =
    let same : u ≡ t = one_token source before at u t q.0 e.0 in
    never_both source ts us f (behind before t) t.span.past e.1 (subst (λ (v : Token). FailsFrom source (behind before v) v.span.past us f) same q.1)

one_fault : (source : List ℕ) (ts us : List Token) (f g : LexFault) (before : Before) (at : ℕ) → FailsFrom source before at ts f → FailsFrom source before at us g → f ≡ g
one_fault source [] [] f g before at p q = p.fault ∙ sym q.fault
one_fault source [] (u ∷ us) f g before at p q = no_stuck source before at u f q.0 p
one_fault source (t ∷ ts) [] f g before at p q = no_stuck source before at t g p.0 q
one_fault source (t ∷ ts) (u ∷ us) f g before at p q =
    let same : u ≡ t = one_token source before at u t q.0 p.0 in
    one_fault source ts us f g (behind before t) t.span.past p.1 (subst (λ (v : Token). FailsFrom source (behind before v) v.span.past us g) same q.1)

pub at_most_one_list : AtMostOneList
at_most_one_list source ts us p q = one_list source ts us start 0 p.1 q.1

text_fault_one : (source : List ℕ) (f g : LexFault) → TextFails source f → TextFails source g → f ≡ g
text_fault_one source f g p q = one_fault source p.0 q.0 f g start 0 p.1 q.1

text_never_both : (source : List ℕ) (ts : List Token) (f : LexFault) → TextLexes source ts → TextFails source f → ⊥
text_never_both source ts f p q = never_both source ts q.0 f start 0 p q.1

no_open : {A : Type 0} (front : List ℕ) (f : LexFault) (quote : ℕ) → TextFails front f → is_open_string f ≡ false → TextFails front (fault.OpenString quote) → A
no_open front f quote p other q = absurd (let same : f ≡ fault.OpenString quote = text_fault_one front f (fault.OpenString quote) p q in
    let is : is_open_string f ≡ true = ap is_open_string same in cc)

one_front : (front : List ℕ) (f g : LexFault) → FrontFails front f → FrontFails front g → f ≡ g
one_front front f g (inl p) (inl q) = text_fault_one front f g p.0 q.0
one_front front f g (inr p) (inr q) = p.0 ∙ sym q.0
one_front front f g (inl p) (inr (e, inl ts)) = absurd (text_never_both front ts.0 f ts.1 p.0)
one_front front f g (inl p) (inr (e, inr quote)) = no_open front f quote.0 p.0 p.1 quote.1
one_front front f g (inr (e, inl ts)) (inl q) = absurd (text_never_both front ts.0 g ts.1 q.0)
one_front front f g (inr (e, inr quote)) (inl q) = no_open front g quote.0 q.0 q.1 quote.1

pub at_most_one_fault : AtMostOneFault
at_most_one_fault source f g (inl p) (inl q) = text_fault_one source f g p.1 q.1
at_most_one_fault source f g (inl p) (inr q) = absurd (q.0 p.0)
at_most_one_fault source f g (inr p) (inl q) = absurd (p.0 q.0)
at_most_one_fault source f g (inr p) (inr q) = one_front (take (utf8_valid_len source) source) f g p.1 q.1

pub never_both_at_all : NeverBoth
never_both_at_all source ts f p (inl q) = text_never_both source ts f p.1 q.1
never_both_at_all source ts f p (inr q) = q.0 p.0

-- A source has a list of tokens or a fault.
use Rattle.std.proofs.Common.{◌≡◌, ℕ, zero, suc, ◌+◌, ◌<◌, ◌≤◌, Bool, true, false, List, [], ◌∷◌, length, take, drop, Option, Some, None, ◌⊎◌, inl, inr, refl, sym, subst, ◌∙◌, arith}
use Rattle.std.proofs.lemmas.Bool.{cases_lt}
use Rattle.std.proofs.lemmas.Str.{IsUtf8-from_is_utf8, is_utf8-from_IsUtf8}
use Rattle.std.specs.Str.{is_utf8}
use Rattle.std.specs.Str.Lossy.{utf8_valid_len}
use Rattle.cr_syntax.specs.declared.fault.LexFault.{LexFault}
use Rattle.cr_syntax.specs.declared.fault.LexFault.TheVariants as fault
use Rattle.cr_syntax.specs.declared.token.Token.{Token}
use Rattle.cr_syntax.specs.declared.token.TokenKind.TheVariants.{Plain}
use Rattle.cr_syntax.specs.declared.look.TokenLook.TheVariants.{End}
use Rattle.cr_syntax.specs.Lexes.{Before, start, outermost, behind, place_of, is_spaced, spells, IsToken, IsEnd, LexesFrom, TextLexes, Lexes}
use Rattle.cr_syntax.specs.Faults.{fault_at, IsStuck, FailsFrom, TextFails, FrontFails, lex_fault}
use Rattle.cr_syntax.specs.Laws.{AlwaysOne}
use Rattle.cr_syntax.proofs.Places.{place_of_le, spells_before}

-- the last of the first n numbers above `low` at which there is something, or none of them
record IsLast {K : Type 0} (f : ℕ → Option K) (low n at : ℕ) (k : K) : Type 0 where
  above : low < at
  within : at ≤ n
  here : f at ≡ Some k
  after : (m : ℕ) → at < m → m ≤ n → f m ≡ None

abbrev LastOrNone : {K : Type 0} → (ℕ → Option K) → ℕ → ℕ → Type 0
LastOrNone {K} f low n = ((at : ℕ) × (k : K) × IsLast f low n at k) ⊎ ((m : ℕ) → low < m → m ≤ n → f m ≡ None)

none_up_to : {K : Type 0} (f : ℕ → Option K) (n m : ℕ) → f (suc n) ≡ None → n < m → m ≤ suc n → f m ≡ None
none_up_to f n m none above within = subst (λ (i : ℕ). f i ≡ None) (omega arith) none

one_more : {K : Type 0} (f : ℕ → Option K) (low n : ℕ) → f (suc n) ≡ None → LastOrNone f low n → LastOrNone f low (suc n)
one_more f low n none (inl (at, k, is)) = inl (
  at,
  k,
  record {
    above = is.above;
    within = (let w : at ≤ n = is.within in omega arith);
    here = is.here;
    after = λ m above within. elim (cases_lt n m) [ inl past ↦ none_up_to f n m none past within | inr le ↦ is.after m above le ];
  },
)
one_more f low n none (inr all) = inr (λ m above within. elim (cases_lt n m) [ inl past ↦ none_up_to f n m none past within | inr le ↦ all m above le ])

at_last : {K : Type 0} (f : ℕ → Option K) (low n : ℕ) (o : Option K) → low < suc n → f (suc n) ≡ o → LastOrNone f low n → LastOrNone f low (suc n)
at_last f low n None lt is below = one_more f low n is below
at_last f low n (Some k) lt is below = inl (suc n, k, record { above = lt; within = omega arith; here = is; after = λ m above within. absurd (omega arith) })

last_some : {K : Type 0} (f : ℕ → Option K) (low n : ℕ) → LastOrNone f low n
last_some f low zero = inr (λ m above within. absurd (omega arith))
last_some f low (suc n) = elim (cases_lt low (suc n)) [
  | inr le ↦ inr (λ m above within. absurd (omega arith))
  | inl lt ↦ at_last f low n (f (suc n)) lt refl (last_some f low n)
]

-- what stands next behind `at`
data Next (source : List ℕ) (before : Before) (at : ℕ) : Type 0 where
  ends : (t : Token) (is : IsEnd source before at t) → Next source before at
  goes : (t : Token) (is : IsToken source before at t) → Next source before at
  stops : (f : LexFault) (is : IsStuck source before at f) → Next source before at

module _ (source : List ℕ) (before : Before) (at : ℕ) where
  at_the_end : place_of source at ≡ length source → (o : Option ℕ) → outermost before.nesting ≡ o → Next source before at
  at_the_end end None closed =
      ends (record { kind = Plain End; span = record { first = length source; past = length source }; spaced = is_spaced source at })
      (record { kind = refl; at_end = end; first = refl; past = refl; spaced = refl; closed = closed })
  at_the_end end (Some quote) is =
      stops (fault_at before (place_of source at) (drop (place_of source at) source)) (record {
        none = λ past within. spells_before source before at past (omega arith);
        is_open = λ _ closed. absurd (let apart : None ≡ Some quote = sym closed ∙ is in cc);
        fault = refl;
      })

  before_the_end : place_of source at < length source → LastOrNone (spells source before at) (place_of source at) (length source) → Next source before at
  before_the_end lt (inl (past, kind, is)) =
      goes (record { kind = kind; span = record { first = place_of source at; past = past }; spaced = is_spaced source at })
      (record { first = refl; spaced = refl; some = is.above; within = is.within; form = is.here; longest = is.after })
  before_the_end lt (inr none) =
      stops (fault_at before (place_of source at) (drop (place_of source at) source)) (record {
        none = λ past within. elim (cases_lt (place_of source at) past) [ inl above ↦ none past above within | inr le ↦ spells_before source before at past le ];
        is_open = λ end _. absurd (omega arith);
        fault = refl;
      })

  next : at ≤ length source → Next source before at
  next le = elim (cases_lt (place_of source at) (length source)) [
    | inl lt ↦ before_the_end lt (last_some (spells source before at) (place_of source at) (length source))
    | inr most ↦ at_the_end (omega (arith, place_of_le source at le)) (outermost before.nesting) refl
  ]

abbrev TokensOrFault : List ℕ → Before → ℕ → Type 0
TokensOrFault source before at = ((ts : List Token) × LexesFrom source before at ts) ⊎ ((ts : List Token) × (f : LexFault) × FailsFrom source before at ts f)

with_token : (source : List ℕ) (before : Before) (at : ℕ) (t : Token) → IsToken source before at t → TokensOrFault source (behind before t) t.span.past → TokensOrFault source before at
with_token source before at t is (inl (ts, lexes)) = inl (t ∷ ts, inr (is, lexes))
with_token source before at t is (inr (ts, f, fails)) = inr (t ∷ ts, f, (is, fails))

tokens_or_fault : (fuel : ℕ) (source : List ℕ) (before : Before) (at : ℕ) → at ≤ length source → length source < at + fuel → TokensOrFault source before at
tokens_or_fault zero source before at le enough = absurd (omega arith)
tokens_or_fault (suc fuel) source before at le enough = elim (next source before at le) [
  | ends t is ↦ inl (t ∷ [], inl (is, refl))
  | stops f is ↦ inr ([], f, is)
  | goes t is ↦ with_token source before at t is (tokens_or_fault fuel source (behind before t) t.span.past is.within
      (let first : t.span.first ≡ place_of source at = is.first in let some : t.span.first < t.span.past = is.some in omega arith))
]

text_tokens_or_fault : (source : List ℕ) → ((ts : List Token) × TextLexes source ts) ⊎ ((f : LexFault) × TextFails source f)
text_tokens_or_fault source = elim (tokens_or_fault (suc (length source)) source start 0 (omega arith) (omega arith)) [
  | inl (ts, lexes) ↦ inl (ts, lexes)
  | inr (ts, f, fails) ↦ inr (f, (ts, fails))
]

front_fault : (front : List ℕ) (f : LexFault) → TextFails front f → (g : LexFault) × FrontFails front g
front_fault front (fault.OpenString quote) fails = (fault.NotUtf8 (length front), inr (refl, inr (quote, fails)))
front_fault front (fault.NotUtf8 n) fails = (fault.NotUtf8 n, inl (fails, refl))
front_fault front (fault.BadByte n) fails = (fault.BadByte n, inl (fails, refl))
front_fault front (fault.BadEscape n) fails = (fault.BadEscape n, inl (fails, refl))
front_fault front (fault.BadNumber n) fails = (fault.BadNumber n, inl (fails, refl))
front_fault front fault.NoMemory fails = (fault.NoMemory, inl (fails, refl))

front_fails : (front : List ℕ) → (f : LexFault) × FrontFails front f
front_fails front = elim (text_tokens_or_fault front) [
  | inl (ts, lexes) ↦ (fault.NotUtf8 (length front), inr (refl, inl (ts, lexes)))
  | inr (f, fails) ↦ front_fault front f fails
]

by_utf8 : (source : List ℕ) (b : Bool) → is_utf8 source ≡ b → ((ts : List Token) × Lexes source ts) ⊎ ((f : LexFault) × lex_fault source f)
by_utf8 source true is = let utf8 = IsUtf8-from_is_utf8 source is in elim (text_tokens_or_fault source) [
  | inl (ts, lexes) ↦ inl (ts, (utf8, lexes))
  | inr (f, fails) ↦ inr (f, inl (utf8, fails))
]
by_utf8 source false is = let front = front_fails (take (utf8_valid_len source) source) in
    inr (front.0, inr ((λ utf8. absurd (let apart : true ≡ false = sym (is_utf8-from_IsUtf8 source utf8) ∙ is in cc)), front.1))

pub always_one : AlwaysOne
always_one source = by_utf8 source (is_utf8 source) refl

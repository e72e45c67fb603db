-- What the calls for a whole source answer.
use Rattle.std.proofs.Common.{◌≡◌, ◌≢◌, ℕ, true, List, length, Result, Ok, Err, refl, subst, inl, inr, ◌⊎◌}
use Rattle.std.specs.Prelude.{IfOk, IfErr, MatchResult}
use Rattle.cr_syntax.specs.declared.fault.LexFault.{LexFault}
use Rattle.cr_syntax.specs.declared.fault.LexFault.TheVariants as fault
use Rattle.cr_syntax.specs.declared.token.Token.{Token}
use Rattle.cr_syntax.specs.Lexes.{Lexes}
use Rattle.cr_syntax.specs.Faults.{is_open_string, TextFails, FrontFails, lex_fault}
use Rattle.cr_syntax.specs.Laws.{AtMostOneList, AtMostOneFault, NeverBoth}

open_fails : (front : List ℕ) (f : LexFault) → is_open_string f ≡ true → TextFails front f → (quote : ℕ) × TextFails front (fault.OpenString quote)
open_fails front (fault.OpenString quote) e fails = (quote, fails)
open_fails front (fault.NotUtf8 n) e fails = absurd cc
open_fails front (fault.BadByte n) e fails = absurd cc
open_fails front (fault.BadEscape n) e fails = absurd cc
open_fails front (fault.BadNumber n) e fails = absurd cc
open_fails front fault.NoMemory e fails = absurd cc

no_memory : (f : LexFault) → is_open_string f ≡ true → f ≢ fault.NoMemory
no_memory f e same = let no : is_open_string fault.NoMemory ≡ true = subst (λ (g : LexFault). is_open_string g ≡ true) same e in absurd cc

pub front_open : (front : List ℕ) (f : LexFault) → is_open_string f ≡ true → (f ≢ fault.NoMemory → TextFails front f) → FrontFails front (fault.NotUtf8 (length front))
front_open front f e fails = inr (refl, inr (open_fails front f e (fails (no_memory f e))))

-- a fault is want of memory, or it is not
memory_or_not : (f : LexFault) → (f ≡ fault.NoMemory) ⊎ (f ≢ fault.NoMemory)
memory_or_not (fault.OpenString n) = inr (λ e. cc)
memory_or_not (fault.NotUtf8 n) = inr (λ e. cc)
memory_or_not (fault.BadByte n) = inr (λ e. cc)
memory_or_not (fault.BadEscape n) = inr (λ e. cc)
memory_or_not (fault.BadNumber n) = inr (λ e. cc)
memory_or_not fault.NoMemory = inl refl

pub not_refused : (source : List ℕ) (ts : List Token) (f : LexFault) → NeverBoth → Lexes source ts → (f ≢ fault.NoMemory → lex_fault source f) → f ≡ fault.NoMemory
not_refused source ts f never lexes fails = elim (memory_or_not f) [
  | inl e ↦ e
  | inr apart ↦ absurd (never source ts f lexes (fails apart))
]

pub same_fault : (source : List ℕ) (f g : LexFault) → AtMostOneFault → lex_fault source f → (g ≢ fault.NoMemory → lex_fault source g) → (g ≡ f) ⊎ (g ≡ fault.NoMemory)
same_fault source f g one this fails = elim (memory_or_not g) [
  | inl e ↦ inr e
  | inr apart ↦ inl (one source g f (fails apart) this)
]

pub accepts : {V : Type 0} (items : V → List Token) (source : List ℕ) (ts : List Token) (r : Result V LexFault) → AtMostOneList → NeverBoth → Lexes source ts
    → IfOk r (λ v. Lexes source (items v)) → IfErr r (λ f. f ≢ fault.NoMemory → lex_fault source f) → MatchResult r (λ v. items v ≡ ts) (λ f. f ≡ fault.NoMemory)
accepts items source ts (Ok v) one never lexes ok err = one source (items v) ts ok lexes
accepts items source ts (Err f) one never lexes ok err = not_refused source ts f never lexes err

pub refuses : {V : Type 0} (items : V → List Token) (source : List ℕ) (f : LexFault) (r : Result V LexFault) → AtMostOneFault → NeverBoth → lex_fault source f
    → IfOk r (λ v. Lexes source (items v)) → IfErr r (λ g. g ≢ fault.NoMemory → lex_fault source g) → MatchResult r (λ _. ⊥) (λ g. (g ≡ f) ⊎ (g ≡ fault.NoMemory))
refuses items source f (Ok v) one never fails ok err = never source (items v) f ok fails
refuses items source f (Err g) one never fails ok err = same_fault source f g one fails err

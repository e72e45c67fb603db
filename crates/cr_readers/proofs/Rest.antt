-- The tokens behind a place of a list.
use Rattle.std.proofs.Common.{arith, ◌≡◌, ◌+◌, ℕ, zero, suc, true, false, List, [], ◌∷◌, drop, refl, sym, ap, ◌∙◌}
use Rattle.cr_syntax.specs.declared.token.Token.{Token}
use Rattle.cr_syntax.specs.Look.{look_of}
use Rattle.cr_grammar.specs.Operators.{begins_argument, begins_value, is_minus}
use Rattle.cr_readers.specs.Reader.{passes, tail}
use Rattle.cr_readers.specs.Cursor.{any_tight}

pub tail_drop : (n : ℕ) (ts : List Token) → drop (n + 1) ts ≡ tail (drop n ts)
tail_drop zero [] = refl
tail_drop zero (t ∷ ts) = refl
tail_drop (suc n) [] = let e : suc n + 1 ≡ suc (n + 1) = omega arith in rw e refl
tail_drop (suc n) (t ∷ ts) = let e : suc n + 1 ≡ suc (n + 1) = omega arith in rw e (tail_drop n ts)

-- A spaced `-` begins an argument where the next token is tight.
minus_begins : (t : Token) (ts : List Token) → t.spaced ≡ true → begins_value (look_of t.kind) ≡ false → is_minus (look_of t.kind) ≡ true
    → passes any_tight ts ≡ begins_argument (t ∷ ts)
minus_begins t [] spaced other minus = rw (spaced, other) refl
minus_begins t (u ∷ ts) spaced other minus = rw (spaced, other, minus) refl

pub minus_begins_here : (t : Token) (ts : List Token) → ts ≡ t ∷ tail ts → t.spaced ≡ true → begins_value (look_of t.kind) ≡ false → is_minus (look_of t.kind) ≡ true
    → passes any_tight (tail ts) ≡ begins_argument ts
minus_begins_here t ts is spaced other minus = minus_begins t (tail ts) spaced other minus ∙ ap begins_argument (sym is)

-- Terms: what is left of a program, some parts of which are values already. And one reduction of a term.
use Rattle.std.specs.Prelude.{ℕ, ◌-◌, ◌^◌, ℤ, pos, negsuc, ◌+ℤ◌, int_le, int_lt, Bool, ◌&&◌, ◌==◌, if◌then◌else◌, List, [], ◌∷◌, Option, Some, None}
use Rattle.cr_value.specs.declared.value.Value.{Value}
use Rattle.cr_value.specs.declared.value.Value.TheVariants.{Nil, Small}
use Rattle.cr_value.specs.Showing.{shown}

-- The forms that a list of sums has.
pub data Term : Type 0 where
  value : Value → Term
  -- a call of `+`
  sum : Term → Term → Term
  puts : Term → Term
  seq : Term → Term → Term

pub data Raise : Type 0 where
  overflow : Raise

-- What one reduction does to a term.
pub data Reduced : Type 0 where
  -- the term is a value, which has no redex
  none : Reduced
  -- the redex has no meaning
  stuck : Reduced
  raises : Raise → Reduced
  -- the term that it becomes, and what is written on standard output
  becomes : Term → List ℕ → Reduced

-- a reduction of a part
abbrev pub within : (Term → Term) → Reduced → Reduced
within around none = none
within around stuck = stuck
within around (raises raise) = raises raise
within around (becomes term text) = becomes (around term) text

abbrev pub is_int32 : ℤ → Bool
is_int32 number = int_le (negsuc (2 ^ 31 - 1)) number && int_lt number (pos (2 ^ 31))

-- A sum that does not fit raises. The other classes with a `+` come with their literals.
abbrev pub sum_of : Value → Value → Reduced
sum_of (Small a) (Small b) = if is_int32 (a +ℤ b) then becomes (value (Small (a +ℤ b))) [] else raises overflow
sum_of a b = stuck

-- a text, and a line feed unless it ends with one
abbrev pub ended : List ℕ → List ℕ
ended [] = 10 ∷ []
ended (c ∷ []) = if c == 10 then c ∷ [] else c ∷ 10 ∷ []
ended (c ∷ d ∷ cs) = c ∷ ended (d ∷ cs)

-- the text of a reference is none
abbrev pub written : Option (List ℕ) → Reduced
written None = stuck
written (Some text) = becomes (value Nil) (ended text)

-- One reduction: of the leftmost innermost redex.
abbrev pub reduced : Term → Reduced
reduced (value v) = none
reduced (sum (value a) (value b)) = sum_of a b
reduced (sum (value a) second) = within (λ t. sum (value a) t) (reduced second)
reduced (sum first second) = within (λ t. sum t second) (reduced first)
reduced (puts (value v)) = written (shown v)
reduced (puts argument) = within puts (reduced argument)
reduced (seq (value v) rest) = becomes rest []
reduced (seq first rest) = within (λ t. seq t rest) (reduced first)

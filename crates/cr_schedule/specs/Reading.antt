-- Reading from left to right. What is read has the bytes after it beside it.
use Rattle.std.specs.Prelude.{ℕ, ◌+◌, ◌-◌, ◌*◌, List, [], ◌∷◌, drop, take_while, Bool, true, false, not, ◌&&◌, ◌||◌, ◌==◌, nat_le, if◌then◌else◌, Option, Some, None, is_none, is_some}
use Rattle.std.specs.Char.{is_ascii_digit}
use Rattle.std.specs.Option.{option_map}
use Rattle.std.specs.List.{prefix_len}
use Rattle.cr_base.specs.declared.ids.FiberId.{FiberId}
use Rattle.cr_schedule.specs.declared.entry.Entry.{Entry}
use Rattle.cr_schedule.specs.declared.entry.Entry.TheVariants.{Steps, Wait, Resume}
use Rattle.cr_schedule.specs.declared.entry.TheConstants.{LAST_FIBER, LAST_CLAUSE, MOST_STEPS}
use Rattle.cr_schedule.specs.declared.trace_line.TheConstants.{SPACE, LINE_FEED, DASH, STEPS, WAIT, RESUME}

infixl 10 ◌>>=◌
abbrev pub ◌>>=◌ : {A B : Type 0} → Option A → (A → Option B) → Option B
None >>= f = None
(Some x) >>= f = f x

-- what comes after a byte
abbrev pub byte_at : ℕ → List ℕ → Option (List ℕ)
byte_at byte [] = None
byte_at byte (first ∷ rest) = if first == byte then Some rest else None

-- the number that digits stand for, behind those of n
abbrev pub value_after : ℕ → List ℕ → ℕ
value_after n [] = n
value_after n (digit ∷ digits) = value_after (n * 10 + (digit - 48)) digits

-- there is a digit, and none is a leading zero
abbrev pub is_numeral : List ℕ → Bool
is_numeral [] = false
is_numeral (digit ∷ []) = true
is_numeral (first ∷ second ∷ digits) = not (first == 48)

abbrev pub value_of : ℕ → List ℕ → Option ℕ
value_of most digits =
    if is_numeral digits && nat_le (value_after 0 digits) most then Some (value_after 0 digits) else None

-- a number, and the byte that ends it
unfoldable pub number_at : ℕ → ℕ → List ℕ → Option (ℕ × List ℕ)
number_at most end bytes = do
  number ← value_of most (take_while is_ascii_digit bytes)
  rest ← byte_at end (drop (prefix_len is_ascii_digit bytes) bytes)
  Some (number, rest)

-- a number or a dash, and the byte that ends it
abbrev pub optional_by : ℕ → ℕ → List ℕ → Option (List ℕ) → Option (Option ℕ × List ℕ)
optional_by most end bytes None = do
  number ← number_at most end bytes
  Some (Some number.0, number.1)
optional_by most end bytes (Some after) = do
  rest ← byte_at end after
  Some (None, rest)

unfoldable pub optional_at : ℕ → ℕ → List ℕ → Option (Option ℕ × List ℕ)
optional_at most end bytes = optional_by most end bytes (byte_at DASH bytes)

abbrev pub fiber_of : ℕ → FiberId
fiber_of n = record { 0 = n }

-- what stands behind `s `
unfoldable pub steps_at : List ℕ → Option (Entry × List ℕ)
steps_at bytes = do
  fiber ← number_at LAST_FIBER SPACE bytes
  count ← number_at MOST_STEPS SPACE fiber.1
  clause ← optional_at LAST_CLAUSE SPACE count.1
  partner ← optional_at LAST_FIBER SPACE clause.1
  partner_clause ← optional_at LAST_CLAUSE LINE_FEED partner.1
  if (count.0 == 0) || (is_none partner.0 && is_some partner_clause.0) then None
      else Some (Steps (fiber_of fiber.0) count.0 clause.0 (option_map fiber_of partner.0) partner_clause.0, partner_clause.1)

-- what stands behind the letter of another entry
unfoldable pub fiber_at : (FiberId → Entry) → List ℕ → Option (Entry × List ℕ)
fiber_at entry bytes = do
  fiber ← number_at LAST_FIBER LINE_FEED bytes
  Some (entry (fiber_of fiber.0), fiber.1)

-- what stands behind this letter and a space
abbrev pub fields_at : ℕ → List ℕ → Option (Entry × List ℕ)
fields_at letter bytes =
    if letter == STEPS then steps_at bytes
    else if letter == WAIT then fiber_at Wait bytes
    else if letter == RESUME then fiber_at Resume bytes
    else None

-- a line, with its line feed
unfoldable pub entry_at : List ℕ → Option (Entry × List ℕ)
entry_at [] = None
entry_at (letter ∷ bytes) = byte_at SPACE bytes >>= fields_at letter

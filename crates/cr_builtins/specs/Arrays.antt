-- What an array does: its list of values afterwards, and the answer.
use Rattle.std.specs.Prelude.{ℤ, pos, negsuc, ℕ, ◌-◌, ◌==◌, nat_lt, List, [], ◌∷◌, ◌++◌, length, take, drop, slice_get, slice_set, Option, Some, None, if◌then◌else◌}
use Rattle.std.specs.Option.{option_and_then}
use Rattle.cr_value.specs.declared.arithmetic.Width.TheVariants.{Small}
use Rattle.cr_value.specs.declared.value.Value.{Value}
use Rattle.cr_value.specs.declared.value.Value.TheVariants.{Nil}
use Rattle.cr_builtins.specs.declared.raise.Raise.TheVariants.{Index, Limit}
use Rattle.cr_builtins.specs.declared.answer.TheConstants.{ENTRY_LIMIT}
use Rattle.cr_builtins.specs.declared.answer.Answer.TheVariants.{Gives, Itself, Raises}
use Rattle.cr_builtins.specs.declared.operation.ArrayOperation.{ArrayOperation}
use Rattle.cr_builtins.specs.declared.operation.ArrayOperation.TheVariants as array
use Rattle.cr_builtins.specs.Outcomes.{first, second, number_operand}
use Rattle.cr_builtins.specs.Cells.{Change, change, with, or_else, flag, count}

abbrev pub Values : Type 0
Values = List Value

-- the place that an index names in a list of this length: -1 names the last
abbrev pub place : ℕ → ℤ → Option ℕ
place n (pos k) = if nat_lt k n then Some k else None
place n (negsuc k) = if nat_lt k n then Some (n - 1 - k) else None

abbrev pub element : Values → ℤ → Option Value
element xs i = option_and_then (slice_get xs) (place (length xs) i)

abbrev pub last : Values → Option Value
last xs = slice_get xs (length xs - 1)

abbrev pub without_last : Values → Values
without_last xs = take (length xs - 1) xs

-- the value at a place, if there is one
abbrev pub set_at : Values → Value → Option ℕ → Change Values
set_at xs v None = change xs (Raises Index)
set_at xs v (Some k) = change (slice_set xs k v) (Gives v)

-- one value more, where the limit lets it in
abbrev pub add : Values → Value → Change Values
add xs v = if nat_lt (length xs) ENTRY_LIMIT then change (xs ++ v ∷ []) Itself else change xs (Raises Limit)

unfoldable pub on_array : ArrayOperation → Values → List Value → Change Values
on_array array.Size xs arguments = change xs (count (length xs))
on_array array.IsEmpty xs arguments = change xs (flag (length xs == 0))
on_array array.Get xs arguments = with xs (number_operand Small arguments) (λ i. change xs (or_else (element xs i) (Raises Index)))
on_array array.GetOrNil xs arguments = with xs (number_operand Small arguments) (λ i. change xs (or_else (element xs i) (Gives Nil)))
on_array array.Set xs arguments = with xs (number_operand Small arguments) (λ i. with xs (second arguments) (λ v. set_at xs v (place (length xs) i)))
on_array array.Append xs arguments = with xs (first arguments) (add xs)
on_array array.Push xs arguments = with xs (first arguments) (add xs)
on_array array.Pop xs arguments = change (without_last xs) (or_else (last xs) (Raises Index))
on_array array.PopOrNil xs arguments = change (without_last xs) (or_else (last xs) (Gives Nil))
on_array array.Shift xs arguments = change (drop 1 xs) (or_else (first xs) (Raises Index))
on_array array.ShiftOrNil xs arguments = change (drop 1 xs) (or_else (first xs) (Gives Nil))
on_array array.First xs arguments = change xs (or_else (first xs) (Raises Index))
on_array array.Last xs arguments = change xs (or_else (last xs) (Raises Index))
on_array array.Clear xs arguments = change [] Itself

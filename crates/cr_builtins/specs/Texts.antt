-- What a text does. Its bytes are at most the limit.
use Rattle.std.specs.Prelude.{ℤ, pos, negsuc, ℕ, nat_eq, nat_le, ◌==◌, List, ◌++◌, length, if◌then◌else◌}
use Rattle.std.specs.List.{repeat, starts_with}
use Rattle.std.specs.Ordering.{nat_cmp}
use Rattle.std.specs.Cmp.Lexicographic.{slice_cmp}
use Rattle.std.specs.Str.{chars}
use Rattle.cr_value.specs.declared.arithmetic.Width.TheVariants.{Small}
use Rattle.cr_value.specs.declared.text.TheConstants.{TEXT_LIMIT}
use Rattle.cr_value.specs.declared.value.Value.{Value}
use Rattle.cr_value.specs.declared.value.Value.TheVariants as value
use Rattle.cr_builtins.specs.declared.raise.Raise.TheVariants.{Argument, Limit}
use Rattle.cr_builtins.specs.declared.outcome.Outcome.{Outcome}
use Rattle.cr_builtins.specs.declared.outcome.Outcome.TheVariants.{Gives, Raises}
use Rattle.cr_builtins.specs.declared.operation.TextOperation.{TextOperation}
use Rattle.cr_builtins.specs.declared.operation.TextOperation.TheVariants as text
use Rattle.cr_builtins.specs.Outcomes.{or_stuck, flag, number_operand, text_operand}
use Rattle.cr_builtins.specs.Equality.{equal}
use Rattle.cr_builtins.specs.Numbers.{compare}

-- the text of these bytes, where they are not too many
abbrev pub limited : List ℕ → Outcome
limited bytes = if nat_le (length bytes) TEXT_LIMIT then Gives (value.Word bytes) else Raises Limit

-- the bytes as many times; a negative number is out of range
abbrev pub repeated : List ℕ → ℤ → Outcome
repeated bytes (pos times) = limited (repeat times bytes)
repeated bytes (negsuc n) = Raises Argument

-- an Int32 of this number
abbrev pub count : ℕ → Outcome
count n = Gives (value.Small (pos n))

-- of the text of these bytes
unfoldable pub on_text : TextOperation → List ℕ → List Value → Outcome
on_text text.Join bytes arguments = or_stuck (text_operand arguments) (λ other. limited (bytes ++ other))
on_text text.Repeat bytes arguments = or_stuck (number_operand Small arguments) (repeated bytes)
on_text text.Equal bytes arguments = equal (value.Word bytes) arguments
on_text (text.Compare comparison) bytes arguments = or_stuck (text_operand arguments) (λ other. flag (compare comparison (slice_cmp nat_cmp bytes other)))
on_text text.Size bytes arguments = count (length (chars bytes))
on_text text.ByteSize bytes arguments = count (length bytes)
on_text text.IsEmpty bytes arguments = flag (length bytes == 0)
on_text text.StartsWith bytes arguments = or_stuck (text_operand arguments) (λ front. flag (starts_with nat_eq bytes front))
on_text text.ToText bytes arguments = Gives (value.Word bytes)

-- What an operation that reads no cell gives of its receiver and its arguments: a receiver of another class is none.
use Rattle.std.specs.Prelude.{Bool, true, false, List, if◌then◌else◌}
use Rattle.cr_value.specs.Showing.{shown}
use Rattle.cr_value.specs.declared.arithmetic.Width.{Width}
use Rattle.cr_value.specs.declared.arithmetic.Width.TheVariants as width
use Rattle.cr_value.specs.declared.value.Value.{Value}
use Rattle.cr_value.specs.declared.value.Value.TheVariants as value
use Rattle.cr_builtins.specs.declared.outcome.Outcome.{Outcome}
use Rattle.cr_builtins.specs.declared.outcome.Outcome.TheVariants.{Gives, Stuck}
use Rattle.cr_builtins.specs.declared.operation.PlainOperation.{PlainOperation}
use Rattle.cr_builtins.specs.declared.operation.PlainOperation.TheVariants as plain
use Rattle.cr_builtins.specs.declared.operation.NumberOperation.{NumberOperation}
use Rattle.cr_builtins.specs.declared.operation.ScalarOperation.{ScalarOperation}
use Rattle.cr_builtins.specs.declared.operation.ScalarOperation.TheVariants.{Same, Nil, Bool as Boolean, Int32, Int64, String}
use Rattle.cr_builtins.specs.Outcomes.{or_stuck, number_in, text_in}
use Rattle.cr_builtins.specs.Equality.{equal}
use Rattle.cr_builtins.specs.Numbers.{on_integer}
use Rattle.cr_builtins.specs.Texts.{on_text}

abbrev pub is_nil : Value → Bool
is_nil value.Nil = true
is_nil v = false

abbrev pub is_flag : Value → Bool
is_flag (value.Flag b) = true
is_flag v = false

abbrev pub is_reference : Value → Bool
is_reference (value.Ref cell) = true
is_reference v = false

-- of nil and of a Bool
abbrev pub plain_operation : PlainOperation → Value → List Value → Outcome
plain_operation plain.Equal v arguments = equal v arguments
plain_operation plain.ToText v arguments = or_stuck (shown v) (λ text. Gives (value.Word text))

-- of an integer of this width
abbrev pub on_number : NumberOperation → Width → Value → List Value → Outcome
on_number operation w v arguments = or_stuck (number_in w v) (λ a. on_integer operation w a arguments)

unfoldable pub scalar : ScalarOperation → Value → List Value → Outcome
scalar (Same class) v arguments = if is_reference v then equal v arguments else Stuck
scalar (Nil operation) v arguments = if is_nil v then plain_operation operation v arguments else Stuck
scalar (Boolean operation) v arguments = if is_flag v then plain_operation operation v arguments else Stuck
scalar (Int32 operation) v arguments = on_number operation width.Small v arguments
scalar (Int64 operation) v arguments = on_number operation width.Big v arguments
scalar (String operation) v arguments = or_stuck (text_in v) (λ text. on_text operation text arguments)

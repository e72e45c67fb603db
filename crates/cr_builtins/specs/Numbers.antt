-- What the integers of each width do.
use Rattle.std.specs.Prelude.{ℤ, pos, negsuc, ℕ, suc, zero, ◌+ℤ◌, ◌-ℤ◌, ◌*ℤ◌, neg_ℤ, ◌/◌, ◌^◌, nat_lt, Bool, List, if◌then◌else◌}
use Rattle.std.specs.Int.{int_wrap, w32, w64}
use Rattle.std.specs.Fmt.{signed_decimal}
use Rattle.std.specs.declared.cmp.Ordering.{Ordering}
use Rattle.std.specs.Ordering.{int_cmp, is_lt, is_le, is_gt, is_ge}
use Rattle.cr_value.specs.declared.arithmetic.Width.{Width}
use Rattle.cr_value.specs.declared.arithmetic.Width.TheVariants.{Small, Big}
use Rattle.cr_value.specs.declared.value.Value.{Value}
use Rattle.cr_value.specs.declared.value.Value.TheVariants as value
use Rattle.cr_builtins.specs.declared.raise.Raise.TheVariants.{Overflow, Division}
use Rattle.cr_builtins.specs.declared.outcome.Outcome.{Outcome}
use Rattle.cr_builtins.specs.declared.outcome.Outcome.TheVariants.{Gives, Raises}
use Rattle.cr_builtins.specs.declared.operation.Reckoning.{Reckoning}
use Rattle.cr_builtins.specs.declared.operation.Reckoning.TheVariants.{Add, Subtract, Multiply, Divide, Remainder, WrapAdd, WrapSubtract, WrapMultiply}
use Rattle.cr_builtins.specs.declared.operation.Comparison.{Comparison}
use Rattle.cr_builtins.specs.declared.operation.Comparison.TheVariants.{Less, LessEqual, Greater, GreaterEqual}
use Rattle.cr_builtins.specs.declared.operation.NumberOperation.{NumberOperation}
use Rattle.cr_builtins.specs.declared.operation.NumberOperation.TheVariants as number
use Rattle.cr_builtins.specs.Outcomes.{or_stuck, flag, number_operand}
use Rattle.cr_builtins.specs.Equality.{equal}

abbrev pub integer : Width → ℤ → Value
integer Small n = value.Small n
integer Big n = value.Big n

-- n lies from -m up to m - 1
abbrev pub is_within : ℕ → ℤ → Bool
is_within m (pos n) = nat_lt n m
is_within m (negsuc n) = nat_lt n m

abbrev pub fits : Width → ℤ → Bool
fits Small n = is_within (2 ^ 31) n
fits Big n = is_within (2 ^ 63) n

-- the integer of this number, where the width has it
abbrev pub checked : Width → ℤ → Outcome
checked w n = if fits w n then Gives (integer w n) else Raises Overflow

-- the integer that is equal to the number modulo the width
abbrev pub wrapped : Width → ℤ → Value
wrapped Small n = value.Small (int_wrap w32 n)
wrapped Big n = value.Big (int_wrap w64 n)

-- a divided by the number b, rounded towards minus infinity: -(a + 1) by b is -(a / b + 1)
abbrev pub floor_by : ℤ → ℕ → ℤ
floor_by (pos a) b = pos (a / b)
floor_by (negsuc a) b = negsuc (a / b)

-- a by b, rounded towards minus infinity: a by -b is -a by b
abbrev pub floor_quotient : ℤ → ℤ → ℤ
floor_quotient a (pos b) = floor_by a b
floor_quotient a (negsuc b) = floor_by (neg_ℤ a) (suc b)

-- what that quotient leaves
abbrev pub floor_remainder : ℤ → ℤ → ℤ
floor_remainder a b = a -ℤ floor_quotient a b *ℤ b

-- what is given of a divisor, which is not to be 0
abbrev pub unless_zero : ℤ → Outcome → Outcome
unless_zero (pos zero) given = Raises Division
unless_zero (pos (suc n)) given = given
unless_zero (negsuc n) given = given

unfoldable pub reckon : Reckoning → Width → ℤ → ℤ → Outcome
reckon Add w a b = checked w (a +ℤ b)
reckon Subtract w a b = checked w (a -ℤ b)
reckon Multiply w a b = checked w (a *ℤ b)
reckon Divide w a b = unless_zero b (checked w (floor_quotient a b))
reckon Remainder w a b = unless_zero b (Gives (integer w (floor_remainder a b)))
reckon WrapAdd w a b = Gives (wrapped w (a +ℤ b))
reckon WrapSubtract w a b = Gives (wrapped w (a -ℤ b))
reckon WrapMultiply w a b = Gives (wrapped w (a *ℤ b))

-- a comparison of two operands that are in this order
abbrev pub compare : Comparison → Ordering → Bool
compare Less order = is_lt order
compare LessEqual order = is_le order
compare Greater order = is_gt order
compare GreaterEqual order = is_ge order

-- of the integer of width w and number a
unfoldable pub on_integer : NumberOperation → Width → ℤ → List Value → Outcome
on_integer (number.Reckon reckoning) w a arguments = or_stuck (number_operand w arguments) (reckon reckoning w a)
on_integer (number.Compare comparison) w a arguments = or_stuck (number_operand w arguments) (λ b. flag (compare comparison (int_cmp a b)))
on_integer number.Negate w a arguments = checked w (neg_ℤ a)
on_integer number.Equal w a arguments = equal (integer w a) arguments
on_integer number.ToInt32 w a arguments = checked Small a
on_integer number.ToInt64 w a arguments = checked Big a
on_integer number.ToText w a arguments = Gives (value.Word (signed_decimal a))

-- When two values are equal.
use Rattle.std.specs.Prelude.{◌==◌, ◌&&◌, Bool, true, false, List, if◌then◌else◌}
use Rattle.std.specs.Bool.{beq}
use Rattle.std.specs.Ordering.{int_eq}
use Rattle.std.specs.Str.{bytes_eq}
use Rattle.cr_value.specs.declared.value.CellRef.{CellRef}
use Rattle.cr_value.specs.declared.value.Value.{Value}
use Rattle.cr_value.specs.declared.value.Value.TheVariants.{Nil, Flag, Small, Big, Word, Ref}
use Rattle.cr_builtins.specs.declared.outcome.Outcome.{Outcome}
use Rattle.cr_builtins.specs.declared.outcome.Outcome.TheVariants.{Stuck}
use Rattle.cr_builtins.specs.Outcomes.{or_stuck, flag, first}

-- one cell
abbrev pub same_cell : CellRef → CellRef → Bool
same_cell a b = (a.cell == b.cell) && (a.atom == b.atom)

-- one class, and one value of it
abbrev pub same : Value → Value → Bool
same Nil Nil = true
same (Flag a) (Flag b) = beq a b
same (Small a) (Small b) = int_eq a b
same (Big a) (Big b) = int_eq a b
same (Word a) (Word b) = bytes_eq a b
same (Ref a) (Ref b) = same_cell a b
same v w = false

-- integers of two widths, which are compared in no way
abbrev pub are_two_widths : Value → Value → Bool
are_two_widths (Small a) (Big b) = true
are_two_widths (Big a) (Small b) = true
are_two_widths v w = false

-- `==` of each class: true for the same value, false for another and for another class
abbrev pub equal_to : Value → Value → Outcome
equal_to v w = if are_two_widths v w then Stuck else flag (same v w)

abbrev pub equal : Value → List Value → Outcome
equal v arguments = or_stuck (first arguments) (equal_to v)

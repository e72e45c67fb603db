-- Operands, and what an operation gives of them. Of its arguments an operation reads as many as its line of the table has.
use Rattle.std.specs.Prelude.{ℤ, ℕ, Bool, List, [], ◌∷◌, Option, Some, None}
use Rattle.cr_value.specs.declared.arithmetic.Width.{Width}
use Rattle.cr_value.specs.declared.arithmetic.Width.TheVariants.{Small, Big}
use Rattle.cr_value.specs.declared.value.Value.{Value}
use Rattle.cr_value.specs.declared.value.Value.TheVariants as value
use Rattle.cr_builtins.specs.declared.outcome.Outcome.{Outcome}
use Rattle.cr_builtins.specs.declared.outcome.Outcome.TheVariants.{Gives, Stuck}

-- an operand of another class than the operation takes is none
abbrev pub or_stuck : {A : Type 0} → Option A → (A → Outcome) → Outcome
or_stuck None give = Stuck
or_stuck (Some operand) give = give operand

abbrev pub flag : Bool → Outcome
flag answer = Gives (value.Flag answer)

abbrev pub first : List Value → Option Value
first [] = None
first (v ∷ vs) = Some v

abbrev pub second : List Value → Option Value
second [] = None
second (v ∷ vs) = first vs

-- the number of an integer of this width
abbrev pub number_in : Width → Value → Option ℤ
number_in Small (value.Small number) = Some number
number_in Big (value.Big number) = Some number
number_in w v = None

-- the bytes of a text
abbrev pub text_in : Value → Option (List ℕ)
text_in (value.Word text) = Some text
text_in v = None

-- the first argument, as an integer of this width
abbrev pub number_operand : Width → List Value → Option ℤ
number_operand w [] = None
number_operand w (v ∷ vs) = number_in w v

-- the first argument, as a text
abbrev pub text_operand : List Value → Option (List ℕ)
text_operand [] = None
text_operand (v ∷ vs) = text_in v

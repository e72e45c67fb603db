-- What an operation on a cell answers, beside what the cell holds afterwards.
use Rattle.std.specs.Prelude.{ℕ, pos, Bool, Option, Some, None}
use Rattle.cr_value.specs.declared.value.Value.{Value}
use Rattle.cr_value.specs.declared.value.Value.TheVariants as value
use Rattle.cr_builtins.specs.declared.answer.Answer.{Answer}
use Rattle.cr_builtins.specs.declared.answer.Answer.TheVariants.{Gives, Stuck}

-- what the cell holds afterwards, and the answer
pub record Change (A : Type 0) : Type 0 where
  pub after : A
  pub answer : Answer

abbrev pub change : {A : Type 0} → A → Answer → Change A
change after answer = record { after = after; answer = answer }

-- an operand of another class than the operation takes is none: the cell stays
abbrev pub with : {A B : Type 0} → A → Option B → (B → Change A) → Change A
with cell None act = change cell Stuck
with cell (Some operand) act = act operand

-- the value, or else another answer
abbrev pub or_else : Option Value → Answer → Answer
or_else None answer = answer
or_else (Some v) answer = Gives v

abbrev pub flag : Bool → Answer
flag answer = Gives (value.Flag answer)

-- an Int32 of this number
abbrev pub count : ℕ → Answer
count n = Gives (value.Small (pos n))

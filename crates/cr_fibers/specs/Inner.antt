-- Parts of what the calls of a fiber do, for calls inside.
use Rattle.std.specs.Prelude.{ℕ, Bool, true, false, List, [], ◌∷◌, ◌++◌, length}
use Rattle.cr_value.specs.declared.value.Value.{Value}
use Rattle.cr_meaning.specs.Term.{Term}
use Rattle.cr_meaning.specs.State as m
use Rattle.cr_meaning.specs.Locals as l
use Rattle.cr_stack.specs.declared.around.Redex.{Redex}
use Rattle.cr_stack.specs.declared.around.Redex.TheVariants as shown
use Rattle.cr_stack.specs.declared.jumping.Jumped.{Jumped}
use Rattle.cr_stack.specs.declared.jumping.Jumped.TheVariants as j

-- ---- ends and jumps

-- what is shown is a call or a block
abbrev pub leaves_locals : Redex → Bool
leaves_locals shown.Frame = true
leaves_locals shown.Body = true
leaves_locals (shown.Finished v) = false
leaves_locals (shown.Node n vs) = false
leaves_locals (shown.Choice n vss) = false
leaves_locals shown.Turn = false
leaves_locals (shown.Sent channel item) = false

-- a jump has left locals
abbrev pub has_left : Jumped → Bool
has_left (j.Ends leaves) = leaves
has_left j.Outwards = false
has_left j.Barred = false

-- the status once a jump has come to this, with this term then
abbrev pub status_after : Jumped → Term → m.Status → m.Status
status_after (j.Ends leaves) t status = m.status_with t status
status_after j.Outwards t status = status
status_after j.Barred t status = status

-- ---- what begins

-- the locals of a block with these slots, which was written among these at a place
abbrev pub block_locals : List m.Slot → ℕ → m.Locals → m.Locals
block_locals slots home around = l.of_block (record { slots = slots; variables = [] }) home around

-- what a name holds at the start, and the captured locals of the fiber then
abbrev pub one_begun : ℕ → Bool → Value → List Value → (m.Slot × List Value)
one_begun i true v variables = (m.Shared (record { fiber = i; number = length variables }), variables ++ v ∷ [])
one_begun i false v variables = (m.Own v, variables)

-- these slots, and then others
abbrev pub with_front : List m.Slot → l.Begun → l.Begun
with_front front b = record b { slots = front ++ b.slots }

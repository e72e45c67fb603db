-- How control goes through each form: a line a form.
use Rattle.std.specs.Prelude.{ℕ, ◌-◌, Bool, true, false, ◌&&◌, ◌||◌, ◌==◌, Option, List, [], ◌∷◌, take, length, slice_get, if◌then◌else◌}
use Rattle.cr_base.specs.declared.ids.NodeId.{NodeId}
use Rattle.cr_core.specs.declared.form.Form.{Form}
use Rattle.cr_core.specs.declared.form.Form.TheVariants as f
use Rattle.cr_flow.specs.declared.variable.Variable.{Variable}
use Rattle.cr_flow.specs.declared.variable.Variable.TheVariants.{Local, Field}
use Rattle.cr_flow.specs.declared.variable.Outcome.{Outcome}
use Rattle.cr_flow.specs.declared.variable.Outcome.TheVariants.{Yes, No}
use Rattle.cr_flow.specs.declared.variable.Arm.{Arm}
use Rattle.cr_flow.specs.declared.variable.Arm.TheVariants.{Part, Give}

-- the forms that go by the outcome of their first part; all others take their parts in order and then act
abbrev pub is_test : Form → Bool
is_test f.Seq = true
is_test f.If = true
is_test f.And = true
is_test f.Or = true
is_test f.Not = true
is_test form = false

-- out of the whole, with these outcomes
abbrev pub gives : Bool → Bool → Arm
gives t u = Give t u

-- where the outcome of the first part leads
abbrev pub arm : Form → Outcome → Arm
arm f.If Yes = Part 1
arm f.If No = Part 2
arm f.And Yes = Part 1
arm f.And No = gives false true
arm f.Or Yes = gives true false
arm f.Or No = Part 1
arm f.Not Yes = gives false true
arm f.Not No = gives true false
arm form outcome = Part 1

-- whether the outcome of the part to which it led is that of the whole; else the whole may end with either
abbrev pub keeps : Form → Bool
keeps f.And = true
keeps f.Or = true
keeps form = false

-- how a node that acts may end of itself
abbrev pub ends : Form → Outcome → Bool
ends f.True No = false
ends f.False Yes = false
ends f.Nil Yes = false
ends f.Break outcome = false
ends f.Next outcome = false
ends f.Again outcome = false
ends f.Return outcome = false
ends f.Raise outcome = false
ends (f.Select otherwise) outcome = false  -- it ends as the clause that it takes
ends form outcome = true

-- jumps: out of a loop, to the next turn of a loop, to the end of a block, to the end of the scope
abbrev pub is_break : Form → Bool
is_break f.Break = true
is_break form = false

abbrev pub begins_turn : Form → Bool
begins_turn f.Again = true
begins_turn f.Next = true
begins_turn form = false

abbrev pub is_next : Form → Bool
is_next f.Next = true
is_next form = false

abbrev pub is_return : Form → Bool
is_return f.Return = true
is_return form = false

abbrev pub assigns : Form → Variable → Bool
assigns (f.Set local) (Local scope slot) = (local.scope.0 == scope.0) && (local.slot == slot)
assigns (f.SetField set) (Field name) = set.0 == name.0
assigns form variable = false

-- whether the last part is not taken in order, but what the act may run: the block of a call or of a fiber, the `else` of a choice
abbrev pub has_arm : Form → Bool
has_arm (f.Call name receiver block) = block
has_arm (f.New question block) = block
has_arm (f.Spawn context) = true
has_arm (f.Select otherwise) = otherwise
has_arm form = false

-- a clause's last part is what its choice goes on as
abbrev pub is_clause : Form → Bool
is_clause f.Send = true
is_clause f.Receive = true
is_clause f.ReceiveOrNil = true
is_clause form = false

abbrev pub is_choice : Form → Bool
is_choice (f.Select otherwise) = true
is_choice form = false

-- the block runs in a fiber of its own, and its end leads nowhere
abbrev pub runs_apart : Form → Bool
runs_apart (f.Spawn context) = true
runs_apart (f.New question block) = true
runs_apart form = false

-- a block may run any number of times
abbrev pub runs_again : Form → Bool
runs_again (f.Call name receiver block) = true
runs_again form = false

abbrev pub ends_apart : Form → Bool
ends_apart form = has_arm form || is_clause form

-- the parts that are taken in order before the act
abbrev pub heads : Form → List NodeId → List NodeId
heads form parts = if ends_apart form then take (length parts - 1) parts else parts

abbrev pub last : List NodeId → Option NodeId
last parts = slice_get parts (length parts - 1)

abbrev pub behind : List NodeId → List NodeId
behind [] = []
behind (p ∷ ps) = ps

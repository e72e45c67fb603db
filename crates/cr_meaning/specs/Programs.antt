-- Programs as the meaning sees them: a sum, a choice that meets another, two fibers that count.
use Rattle.std.specs.Prelude.{ℕ, pos, ◌==◌, Bool, true, false, if◌then◌else◌, List, [], ◌∷◌, codes, Option, Some, None}
use Rattle.cr_base.specs.declared.ids.ClassId.{ClassId}
use Rattle.cr_base.specs.declared.ids.MethodId.{MethodId}
use Rattle.cr_base.specs.declared.ids.NameId.{NameId}
use Rattle.cr_base.specs.declared.ids.NodeId.{NodeId}
use Rattle.cr_value.specs.declared.value.Value.{Value}
use Rattle.cr_value.specs.declared.value.Value.TheVariants as value
use Rattle.cr_builtins.specs.declared.operation.Operation.TheVariants as operation
use Rattle.cr_builtins.specs.declared.operation.ScalarOperation.TheVariants as scalar
use Rattle.cr_builtins.specs.declared.operation.NumberOperation.TheVariants as number
use Rattle.cr_builtins.specs.declared.operation.Reckoning.TheVariants as reckoning
use Rattle.cr_builtins.specs.declared.operation.ChannelOperation.TheVariants as channel
use Rattle.cr_core.specs.Core.{Core, none, one, ◌⊕◌}
use Rattle.cr_core.specs.Arena.{rows}
use Rattle.cr_core.specs.declared.form.Form.{Form}
use Rattle.cr_core.specs.declared.form.Form.TheVariants as f
use Rattle.cr_core.specs.declared.form.Local.{Local}
use Rattle.cr_core.specs.declared.form.ScopeId.{ScopeId}
use Rattle.cr_core.specs.declared.form.TextId.{TextId}
use Rattle.cr_core.specs.declared.row.Place.{Place}
use Rattle.cr_core.specs.declared.scope.Scope.{Scope}
use Rattle.cr_core.specs.declared.scope.ScopeKind.{ScopeKind}
use Rattle.cr_core.specs.declared.scope.ScopeKind.TheVariants.{Main, Method as OfMethod, Spawn}
use Rattle.cr_core.specs.declared.scope.Slot.{Slot}
use Rattle.cr_meaning.specs.World.{World, Target, Method, Builtin, Further, nothing, goes_to, Made, Object, Channel, Parallel}

abbrev pub here : Place
here = record { prelude = false; at = 0 }

abbrev pub of : Form → Core → Core
of form parts = one form here parts

abbrev pub leaf : Form → Core
leaf form = of form none

abbrev pub named : ℕ → NameId
named n = record { 0 = n }

abbrev pub class : ℕ → ClassId
class n = record { 0 = n }

abbrev pub method : ℕ → MethodId
method n = record { 0 = n }

abbrev pub row : ℕ → NodeId
row n = record { 0 = n }

abbrev pub scope : ℕ → ScopeId
scope n = record { 0 = n }

abbrev pub text : ℕ → TextId
text n = record { 0 = n }

-- a local of a scope, by the place of its slot, named from so many scopes further in
abbrev pub local : ℕ → ℕ → ℕ → Local
local k slot up = record { scope = scope k; slot = slot; up = up }

abbrev pub and_then : Core → Core → Core
and_then first second = of f.Seq (first ⊕ second)

abbrev pub new : Core → Core
new arguments = of (f.New false false) (leaf (f.Atom (named 0)) ⊕ arguments)

abbrev pub slot : ℕ → Bool → Slot
slot n captured = record { name = Some (named n); captured = captured }

abbrev pub scope_with : ScopeKind → Option ScopeId → ℕ → ℕ → ℕ → List Slot → Scope
scope_with kind home site body parameters slots = record { kind = kind; home = home; site = row site; body = row body; parameters = parameters; slots = slots }

-- ---- classes by their numbers

abbrev pub class_of : Value → ClassId
class_of value.Nil = class 1
class_of (value.Flag b) = class 2
class_of (value.Small n) = class 3
class_of (value.Big n) = class 4
class_of (value.Word bytes) = class 5
class_of (value.Ref cell) = class 0

abbrev pub world_of : List Scope → List (List ℕ) → Core → (NameId → Option Target) → (ClassId → Further) → (NodeId → Option Made) → (MethodId → NodeId) → World
world_of scopes texts core choose initialize makes def_of = record {
  rows = rows core;
  scopes = scopes;
  texts = texts;
  class_of = class_of;
  array_class = class 6;
  hash_class = class 7;
  channel_class = class 8;
  concurrent_class = class 9;
  parallel_class = class 10;
  isolated_class = class 11;
  object_class = class 0;
  choose = λ c name arguments block top. choose name;
  choose_super = λ c m arguments. nothing;
  choose_initialize = λ c arguments. initialize c;
  def_of = def_of;
  is_top = λ m. false;
  is_initialize = λ m. false;
  makes = makes;
  covers = λ atoms c. false;
}

-- the same, where the method of this number is an `initialize`
abbrev pub initializing : ℕ → World → World
initializing k P = record P { is_initialize = λ m. m.0 == k }

abbrev pub call : ℕ → Core → Core
call name parts = of (f.Call (named name) true false) parts

-- ---- puts 1 + 2

abbrev pub sum_world : World
sum_world = world_of
    (scope_with Main None 0 1 0 [] ∷ [])
    [] (of (f.Program (scope 0)) (of f.Puts (call 0 (leaf (f.Int32 (pos 1)) ⊕ leaf (f.Int32 (pos 2))))))
    (λ name. Some (Builtin (operation.Scalar (scalar.Int32 (number.Reckon reckoning.Add))))) (λ c. nothing) (λ n. None) (λ m. row 0)

-- ---- a choice that meets another
--
-- ch = Channel(Int32).new
-- spawn do
--   select
--   when ch.send(1)
--     puts "sent"
--   end
-- end
-- Fiber.yield
-- select
-- when x = ch.receive
--   puts x
-- else
--   puts "none"
-- end

abbrev pub sending : Core
sending = of (f.Select false) (of f.Send (leaf (f.Local (local 0 0 1)) ⊕ (leaf (f.Int32 (pos 1)) ⊕ of f.Puts (leaf (f.Text (text 0))))))

abbrev pub receiving : Core
receiving = of (f.Select true)
    (of f.Receive (leaf (f.Local (local 0 0 0)) ⊕ and_then (of (f.Set (local 0 1 0)) (leaf f.Received)) (of f.Puts (leaf (f.Local (local 0 1 0)))))
    ⊕ of f.Puts (leaf (f.Text (text 1))))

abbrev pub a_meeting : Core
a_meeting = of (f.Program (scope 0))
    (and_then (of (f.Set (local 0 0 0)) (new none))
    (and_then (of (f.Spawn false) (of (f.Block (scope 1)) sending))
    (and_then (leaf f.Pause) receiving)))

-- the first row is the program's, the second that of the statements; the block is row 7, and its body row 8
abbrev pub meeting_world : World
meeting_world = world_of
    (scope_with Main None 0 1 0 (slot 0 true ∷ slot 1 false ∷ []) ∷ scope_with Spawn (Some (scope 0)) 6 8 0 [] ∷ [])
    (codes "sent" ∷ codes "none" ∷ []) a_meeting (λ name. None) (λ c. nothing) (λ n. Some Channel) (λ m. row 0)

-- ---- two fibers that count
--
-- class Counter
--   property n : Int32
--   def initialize
--     @n = 0
--   end
-- end
-- c = Counter.new
-- done = Channel(Nil).new(1)
-- ctx = Fiber::ExecutionContext::Parallel.new("p", 2)
-- ctx.spawn do
--   c.n = c.n + 1
--   done.send(nil)
-- end
-- c.n = c.n + 1
-- done.receive
-- puts c.n

abbrev pub method_of : ℕ → ℕ → Core → Core
method_of name k parts = of (f.Def (named name) (scope k) false true) parts

-- c.n = c.n + 1, from so many scopes further in
abbrev pub counts_one : ℕ → Core
counts_one up =
    call 1 (leaf (f.Local (local 0 0 up)) ⊕ call 2 (call 0 (leaf (f.Local (local 0 0 up))) ⊕ leaf (f.Int32 (pos 1))))

abbrev pub counter : Core
counter = of (f.Class (named 6) None)
    (method_of 0 2 (leaf (f.Field (named 5)))
    ⊕ (method_of 1 3 (leaf (f.Parameter 0 false) ⊕ of (f.SetField (named 5)) (leaf (f.Local (local 3 0 0))))
    ⊕ method_of 7 4 (of (f.SetField (named 5)) (leaf (f.Int32 (pos 0))))))

abbrev pub spawned : Core
spawned = and_then (counts_one 1) (call 3 (leaf (f.Local (local 0 1 1)) ⊕ leaf f.Nil))

abbrev pub two_counters : Core
two_counters = of (f.Program (scope 0))
    (counter
    ⊕ and_then (of (f.Set (local 0 0 0)) (new none))
    (and_then (of (f.Set (local 0 1 0)) (new (leaf (f.Int32 (pos 1)))))
    (and_then (of (f.Set (local 0 2 0)) (new (leaf (f.Text (text 0)) ⊕ leaf (f.Int32 (pos 2)))))
    (and_then (of (f.Spawn true) (leaf (f.Local (local 0 2 0)) ⊕ of (f.Block (scope 1)) spawned))
    (and_then (counts_one 0)
    (and_then (call 4 (leaf (f.Local (local 0 1 0))))
    (of f.Puts (call 0 (leaf (f.Local (local 0 0 0)))))))))))

abbrev pub counting_choice : NameId → Option Target
counting_choice name =
    if name.0 == 0 then Some (Method (method 0))
    else if name.0 == 1 then Some (Method (method 1))
    else if name.0 == 2 then Some (Builtin (operation.Scalar (scalar.Int32 (number.Reckon reckoning.Add))))
    else if name.0 == 3 then Some (Builtin (operation.Channel channel.Send))
    else Some (Builtin (operation.Channel channel.Receive))

abbrev pub counting_makes : NodeId → Option Made
counting_makes n = Some (if n.0 == 14 then Object (class 12) else if n.0 == 18 then Channel else Parallel)

abbrev pub counting_def : MethodId → NodeId
counting_def m = row (if m.0 == 0 then 2 else if m.0 == 1 then 4 else 8)

-- The class is row 1, its methods are rows 2, 4 and 8; the statements are row 11, the block is row 29.
abbrev pub counting_world : World
counting_world = initializing 2
    (world_of
    (scope_with Main None 0 11 0 (slot 8 true ∷ slot 9 true ∷ slot 10 false ∷ [])
    ∷ scope_with Spawn (Some (scope 0)) 27 30 0 []
    ∷ scope_with OfMethod None 2 3 0 []
    ∷ scope_with OfMethod None 4 6 1 (slot 0 false ∷ [])
    ∷ scope_with OfMethod None 8 9 0 [] ∷ [])
    (codes "p" ∷ []) two_counters counting_choice (λ c. goes_to (Method (method 2))) counting_makes counting_def)

-- Fibers and contexts: their making, and where a fiber goes.
use Rattle.std.specs.Prelude.{ℕ, ℤ, pos, negsuc, ◌&&◌, nat_le, nat_lt, Bool, false, if◌then◌else◌, List, [], ◌∷◌, ◌++◌, Option, Some, None, length, slice_get}
use Rattle.cr_base.specs.declared.ids.NodeId.{NodeId}
use Rattle.cr_value.specs.declared.value.Value.{Value}
use Rattle.cr_value.specs.declared.value.Value.TheVariants.{Nil, Small, Word, Ref}
use Rattle.cr_builtins.specs.declared.raise.Raise.TheVariants.{Argument}
use Rattle.cr_core.specs.declared.scope.Scope.{Scope}
use Rattle.cr_meaning.specs.World.{World}
use Rattle.cr_meaning.specs.Term.{Body, tree}
use Rattle.cr_meaning.specs.State.{Cell, Context, Kind, Concurrent, Parallel, Isolated, Where, Locals, Fiber, Ready, Current, Waiting, Done, Raised, Status, State}
use Rattle.cr_meaning.specs.Locals.{Begun, begun_scope, scope_at, of_block, around, innermost}
use Rattle.cr_meaning.specs.Limits.{most_fibers, most_contexts, most_size}
use Rattle.cr_meaning.specs.Act.{Act, Raises, Stuck, Blocked, Language, gives, or_stuck}
use Rattle.cr_meaning.specs.Calls.{unless_full, makes_cell}

-- ---- where a fiber goes

abbrev pub landing_by : Kind → ℕ → ℕ
landing_by Concurrent context = context
landing_by Parallel context = context
landing_by (Isolated fiber) context = 0

abbrev pub landing_in : Option Where → ℕ → ℕ
landing_in None context = 0
landing_in (Some w) context = landing_by w.kind context

-- A fiber that is spawned towards this context: none but its own lands in an isolated one, but in the default context.
abbrev pub landing : State → ℕ → ℕ
landing s context = landing_in (slice_get s.contexts context) context

-- ---- a new fiber

abbrev pub last_of : Locals → List Locals → Locals
last_of l [] = l
last_of l (k ∷ ks) = last_of k ks

-- the locals of the block that a fiber begins with, behind those around it
abbrev pub first_locals : List Locals → Begun → List Locals
first_locals [] b = record { home = None; slots = b.slots; receiver = None; method = None; given = None } ∷ []
first_locals (l ∷ ls) b = (l ∷ ls) ++ of_block b (length ls) (last_of l ls) ∷ []

abbrev pub begins_with : World → List Locals → ℕ → Scope → Begun → Fiber
begins_with P ls context scope b = record {
  term = Body (tree P scope.body);
  locals = first_locals ls b;
  variables = b.variables;
  context = context;
  status = Ready;
}

-- the fiber with this number that begins with a block, which was written in this one where it stands
abbrev pub new_fiber : World → ℕ → Fiber → ℕ → Scope → Fiber
new_fiber P k fiber context scope =
    begins_with P (around fiber.locals (length fiber.locals) (innermost fiber)) context scope (begun_scope k scope [] [])

abbrev pub with_fiber : State → Fiber → State
with_fiber s fiber = record s { fibers = s.fibers ++ fiber ∷ [] }

-- A fiber that begins with the block of this row is made, and is ready in this context.
abbrev pub spawns : World → State → Fiber → ℕ → NodeId → Act
spawns P s fiber context block =
    or_stuck (λ scope. unless_full (length s.fibers) most_fibers (gives (with_fiber s (new_fiber P (length s.fibers) fiber context scope)) Nil)) (scope_at P block)

abbrev pub spawns_in_cell : World → State → Fiber → NodeId → Option Cell → Act
spawns_in_cell P s fiber block (Some (Context k)) = spawns P s fiber (landing s k) block
spawns_in_cell P s fiber block other = Stuck

abbrev pub spawns_in : World → State → Fiber → NodeId → Value → Act
spawns_in P s fiber block (Ref r) = spawns_in_cell P s fiber block (slice_get s.cells r.cell)
spawns_in P s fiber block v = Stuck

-- ---- a new context

-- The context gets the next number, and its cell the next one.
abbrev pub makes_context : State → Kind → ℕ → (State → Value → Act) → Act
makes_context s kind size go =
    unless_full (length s.contexts) most_contexts
    (makes_cell (record s { contexts = s.contexts ++ record { kind = kind; size = size } ∷ [] }) (Context (length s.contexts)) go)

abbrev pub makes_concurrent : State → List Value → Act
makes_concurrent s (Word name ∷ []) = makes_context s Concurrent 1 gives
makes_concurrent s vs = Stuck

abbrev pub is_size : ℤ → Bool
is_size (pos n) = nat_lt 0 n && nat_le n most_size
is_size (negsuc n) = false

abbrev pub size_of : ℤ → ℕ
size_of (pos n) = n
size_of (negsuc n) = 0

abbrev pub makes_parallel : State → List Value → Act
makes_parallel s (Word name ∷ Small n ∷ []) = if is_size n then makes_context s Parallel (size_of n) gives else Raises (Language Argument)
makes_parallel s vs = Stuck

-- An isolated context has a fiber of its own, which begins with the block.
abbrev pub makes_isolated : World → State → Fiber → NodeId → List Value → Act
makes_isolated P s fiber block (Word name ∷ []) =
    or_stuck (λ scope. unless_full (length s.fibers) most_fibers
    (makes_context s (Isolated (length s.fibers)) 1 (λ s' v. gives (with_fiber s' (new_fiber P (length s.fibers) fiber (length s.contexts) scope)) v)))
    (scope_at P block)
makes_isolated P s fiber block vs = Stuck

-- ---- waiting for an isolated context

abbrev pub waits_by : State → Status → Act
waits_by s Done = gives s Nil
waits_by s Raised = gives s Nil
waits_by s Ready = Blocked
waits_by s Current = Blocked
waits_by s Waiting = Blocked

abbrev pub waits_for_fiber : State → Option Fiber → Act
waits_for_fiber s None = Stuck
waits_for_fiber s (Some fiber) = waits_by s fiber.status

abbrev pub waits_for_kind : State → Kind → Act
waits_for_kind s Concurrent = Stuck
waits_for_kind s Parallel = Stuck
waits_for_kind s (Isolated fiber) = waits_for_fiber s (slice_get s.fibers fiber)

abbrev pub waits_for : State → ℕ → Act
waits_for s k = or_stuck (λ (w : Where). waits_for_kind s w.kind) (slice_get s.contexts k)

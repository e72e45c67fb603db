-- What one reduction does to channels, whatever the redex.
use Rattle.std.proofs.Common.{◌≡◌, ℕ, Bool, true, false, List, [], ◌∷◌, ◌++◌, refl, sym, subst, Option, Some, None, length, slice_get, slice_set, if◌then◌else◌, ℤ}
use Rattle.std.proofs.lemmas.Option.{none-some}
use Rattle.cr_base.specs.declared.ids.NameId.{NameId}
use Rattle.cr_base.specs.declared.ids.NodeId.{NodeId}
use Rattle.cr_value.specs.declared.value.Value.{Value}
use Rattle.cr_value.specs.declared.value.Value.TheVariants as value
use Rattle.cr_value.specs.Showing.{shown}
use Rattle.cr_builtins.specs.declared.raise.Raise.TheVariants.{Argument}
use Rattle.cr_builtins.specs.declared.outcome.Outcome.{Outcome}
use Rattle.cr_builtins.specs.declared.outcome.Outcome.TheVariants as outcome
use Rattle.cr_builtins.specs.declared.operation.Operation.{Operation as Method_of}
use Rattle.cr_builtins.specs.declared.operation.Operation.TheVariants as operation
use Rattle.cr_builtins.specs.declared.operation.ContextOperation.{ContextOperation}
use Rattle.cr_builtins.specs.declared.operation.ContextOperation.TheVariants as context
use Rattle.cr_builtins.specs.declared.answer.Answer.{Answer}
use Rattle.cr_builtins.specs.declared.answer.Answer.TheVariants as answer
use Rattle.cr_builtins.specs.declared.operation.ArrayOperation.{ArrayOperation}
use Rattle.cr_builtins.specs.declared.operation.HashOperation.{HashOperation}
use Rattle.cr_builtins.specs.Scalars.{scalar}
use Rattle.cr_builtins.specs.Arrays.{on_array}
use Rattle.cr_builtins.specs.Hashes.{on_hash}
use Rattle.cr_core.specs.declared.form.Form.{Form}
use Rattle.cr_core.specs.declared.form.Form.TheVariants as f
use Rattle.cr_core.specs.declared.form.Local.{Local}
use Rattle.cr_meaning.specs.World.{World, Made}
use Rattle.cr_meaning.specs.World as made
use Rattle.cr_meaning.specs.Term.{Term, Terms, Val, Node, Turn, Frame, Body, Sent}
use Rattle.cr_meaning.specs.State.{Cell, Object, Array, Hash, Chan, Context, Instance, Kind, Concurrent, Parallel, Isolated, Where, Given, Fiber, Status, Ready, Current, Waiting, Done, Raised, Slot, Own, Shared, Variable, State, set_cell}
use Rattle.cr_meaning.specs.Locals.{slot_of, read, written, set_variable, scope_at}
use Rattle.cr_meaning.specs.Limits.{most_fibers, most_contexts}
use Rattle.cr_meaning.specs.Act.{Act, Raises, Language, Stuck, Choice, gives, or_stuck, outcome_of}
use Rattle.cr_meaning.specs.Redex.{part_at}
use Rattle.cr_meaning.specs.Calls as calls
use Rattle.cr_meaning.specs.Fibers as fibers
use Rattle.cr_meaning.specs.Channels as channels
use Rattle.cr_meaning.specs.Builtins as builtins
use Rattle.cr_meaning.specs.Reduce as r
use Rattle.cr_meaning.specs.Histories.{Evolve}
use Rattle.cr_meaning.proofs.Evolving.{unchanged, set_one}
use Rattle.cr_meaning.proofs.Kept.{Keeps, if_kept, or_stuck_kept, full_kept, from_cells, makes_cell_kept, called_kept, super_kept, object_kept, yield_kept}
use Rattle.cr_meaning.proofs.Sending.{sent_kept, selects_kept, operates_kept, channel_kept}

-- ---- fibers and contexts

spawns_kept : (P : World) (s : State) (fiber : Fiber) (context : ℕ) (block : NodeId) → Keeps s.cells (fibers.spawns P s fiber context block)
spawns_kept P s fiber context block =
    or_stuck_kept s.cells (λ scope. calls.unless_full (length s.fibers) most_fibers (gives (fibers.with_fiber s (fibers.new_fiber P (length s.fibers) fiber context scope)) value.Nil)) (scope_at P block)
    (λ scope e. full_kept s.cells (length s.fibers) most_fibers (gives (fibers.with_fiber s (fibers.new_fiber P (length s.fibers) fiber context scope)) value.Nil) (unchanged s.cells))

spawns_in_cell_kept : (P : World) (s : State) (fiber : Fiber) (block : NodeId) (cell : Option Cell) → Keeps s.cells (fibers.spawns_in_cell P s fiber block cell)
spawns_in_cell_kept P s fiber block None = tt
spawns_in_cell_kept P s fiber block (Some (Context k)) = spawns_kept P s fiber (fibers.landing s k) block
spawns_in_cell_kept P s fiber block (Some (Object o)) = tt
spawns_in_cell_kept P s fiber block (Some (Array vs)) = tt
spawns_in_cell_kept P s fiber block (Some (Hash pairs)) = tt
spawns_in_cell_kept P s fiber block (Some (Chan c)) = tt

spawns_in_kept : (P : World) (s : State) (fiber : Fiber) (block : NodeId) (v : Value) → Keeps s.cells (fibers.spawns_in P s fiber block v)
spawns_in_kept P s fiber block (value.Ref cell) = spawns_in_cell_kept P s fiber block (slice_get s.cells cell.cell)
spawns_in_kept P s fiber block value.Nil = tt
spawns_in_kept P s fiber block (value.Flag b) = tt
spawns_in_kept P s fiber block (value.Small n) = tt
spawns_in_kept P s fiber block (value.Big n) = tt
spawns_in_kept P s fiber block (value.Word text) = tt

spawned_kept : (P : World) (s : State) (fiber : Fiber) (vs : List Value) (block : Option NodeId) → Keeps s.cells (r.spawned P s fiber vs block)
spawned_kept P s fiber [] None = tt
spawned_kept P s fiber (v ∷ vs) None = tt
spawned_kept P s fiber [] (Some block) = spawns_kept P s fiber (fibers.landing s fiber.context) block
spawned_kept P s fiber (v ∷ vs) (Some block) = spawns_in_kept P s fiber block v

context_kept : (s : State) (kind : Kind) (size : ℕ) (go : State → Value → Act) → ((s' : State) (v : Value) → Evolve s.cells s'.cells → Keeps s.cells (go s' v)) → Keeps s.cells (fibers.makes_context s kind size go)
context_kept s kind size go h =
    let there = record s { contexts = s.contexts ++ record { kind = kind; size = size } ∷ [] } in
    full_kept s.cells (length s.contexts) most_contexts (calls.makes_cell there (Context (length s.contexts)) go)
    (makes_cell_kept there (Context (length s.contexts)) go tt h)

concurrent_kept : (s : State) (vs : List Value) → Keeps s.cells (fibers.makes_concurrent s vs)
concurrent_kept s [] = tt
concurrent_kept s (value.Word name ∷ []) = context_kept s Concurrent 1 gives (λ s' v h. h)
concurrent_kept s (value.Word name ∷ v ∷ vs) = tt
concurrent_kept s (value.Nil ∷ vs) = tt
concurrent_kept s (value.Flag b ∷ vs) = tt
concurrent_kept s (value.Small n ∷ vs) = tt
concurrent_kept s (value.Big n ∷ vs) = tt
concurrent_kept s (value.Ref cell ∷ vs) = tt

sized_kept : (s : State) (n : ℤ) → Keeps s.cells (if fibers.is_size n then fibers.makes_context s Parallel (fibers.size_of n) gives else Raises (Language Argument))
sized_kept s n =
    if_kept s.cells (fibers.is_size n) (fibers.makes_context s Parallel (fibers.size_of n) gives) (Raises (Language Argument)) (context_kept s Parallel (fibers.size_of n) gives (λ s' v h. h)) tt

parallel_named_kept : (s : State) (name : List ℕ) (vs : List Value) → Keeps s.cells (fibers.makes_parallel s (value.Word name ∷ vs))
parallel_named_kept s name [] = tt
parallel_named_kept s name (value.Small n ∷ []) = sized_kept s n
parallel_named_kept s name (value.Small n ∷ v ∷ vs) = tt
parallel_named_kept s name (value.Nil ∷ vs) = tt
parallel_named_kept s name (value.Flag b ∷ vs) = tt
parallel_named_kept s name (value.Word text ∷ vs) = tt
parallel_named_kept s name (value.Big n ∷ vs) = tt
parallel_named_kept s name (value.Ref cell ∷ vs) = tt

parallel_kept : (s : State) (vs : List Value) → Keeps s.cells (fibers.makes_parallel s vs)
parallel_kept s [] = tt
parallel_kept s (value.Word name ∷ vs) = parallel_named_kept s name vs
parallel_kept s (value.Nil ∷ vs) = tt
parallel_kept s (value.Flag b ∷ vs) = tt
parallel_kept s (value.Small n ∷ vs) = tt
parallel_kept s (value.Big n ∷ vs) = tt
parallel_kept s (value.Ref cell ∷ vs) = tt

isolated_scope_kept : (P : World) (s : State) (fiber : Fiber) (block : NodeId) → Keeps s.cells (or_stuck (λ scope. calls.unless_full (length s.fibers) most_fibers
    (fibers.makes_context s (Isolated (length s.fibers)) 1 (λ s' v. gives (fibers.with_fiber s' (fibers.new_fiber P (length s.fibers) fiber (length s.contexts) scope)) v)))
    (scope_at P block))
isolated_scope_kept P s fiber block =
    or_stuck_kept s.cells (λ scope. calls.unless_full (length s.fibers) most_fibers
    (fibers.makes_context s (Isolated (length s.fibers)) 1 (λ s' v. gives (fibers.with_fiber s' (fibers.new_fiber P (length s.fibers) fiber (length s.contexts) scope)) v)))
    (scope_at P block)
    (λ scope e. full_kept s.cells (length s.fibers) most_fibers
    (fibers.makes_context s (Isolated (length s.fibers)) 1 (λ s' v. gives (fibers.with_fiber s' (fibers.new_fiber P (length s.fibers) fiber (length s.contexts) scope)) v))
    (context_kept s (Isolated (length s.fibers)) 1 (λ s' v. gives (fibers.with_fiber s' (fibers.new_fiber P (length s.fibers) fiber (length s.contexts) scope)) v) (λ s' v h. h)))

isolated_kept : (P : World) (s : State) (fiber : Fiber) (block : NodeId) (vs : List Value) → Keeps s.cells (fibers.makes_isolated P s fiber block vs)
isolated_kept P s fiber block [] = tt
isolated_kept P s fiber block (value.Word name ∷ []) = isolated_scope_kept P s fiber block
isolated_kept P s fiber block (value.Word name ∷ v ∷ vs) = tt
isolated_kept P s fiber block (value.Nil ∷ vs) = tt
isolated_kept P s fiber block (value.Flag b ∷ vs) = tt
isolated_kept P s fiber block (value.Small n ∷ vs) = tt
isolated_kept P s fiber block (value.Big n ∷ vs) = tt
isolated_kept P s fiber block (value.Ref cell ∷ vs) = tt

waits_by_kept : (s : State) (status : Status) → Keeps s.cells (fibers.waits_by s status)
waits_by_kept s Done = unchanged s.cells
waits_by_kept s Raised = unchanged s.cells
waits_by_kept s Ready = tt
waits_by_kept s Current = tt
waits_by_kept s Waiting = tt

waits_fiber_kept : (s : State) (fiber : Option Fiber) → Keeps s.cells (fibers.waits_for_fiber s fiber)
waits_fiber_kept s None = tt
waits_fiber_kept s (Some fiber) = waits_by_kept s fiber.status

waits_kind_kept : (s : State) (kind : Kind) → Keeps s.cells (fibers.waits_for_kind s kind)
waits_kind_kept s Concurrent = tt
waits_kind_kept s Parallel = tt
waits_kind_kept s (Isolated fiber) = waits_fiber_kept s (slice_get s.fibers fiber)

waits_kept : (s : State) (k : ℕ) → Keeps s.cells (fibers.waits_for s k)
waits_kept s k = or_stuck_kept s.cells (λ (w : Where). fibers.waits_for_kind s w.kind) (slice_get s.contexts k) (λ w e. waits_kind_kept s w.kind)

-- ---- built-in methods

outcome_kept : (s : State) (o : Outcome) → Keeps s.cells (outcome_of s o)
outcome_kept s (outcome.Gives v) = unchanged s.cells
outcome_kept s (outcome.Raises raise) = tt
outcome_kept s outcome.Stuck = tt

waits_in_kept : (s : State) (cell : Option Cell) → Keeps s.cells (builtins.context_in cell Stuck (fibers.waits_for s))
waits_in_kept s None = tt
waits_in_kept s (Some (Context k)) = waits_kept s k
waits_in_kept s (Some (Object o)) = tt
waits_in_kept s (Some (Array vs)) = tt
waits_in_kept s (Some (Hash pairs)) = tt
waits_in_kept s (Some (Chan c)) = tt

waits_cell_kept : (s : State) (k : Option ℕ) → Keeps s.cells (builtins.waits_at_cell s k)
waits_cell_kept s None = tt
waits_cell_kept s (Some k) = waits_in_kept s (slice_get s.cells k)

context_operation_kept : (s : State) (o : ContextOperation) (v : Value) (vs : List Value) → Keeps s.cells (builtins.context_operation s o (Some v) vs)
context_operation_kept s context.Wait v [] = waits_cell_kept s (channels.cell_of v)
context_operation_kept s context.Wait v (w ∷ vs) = tt
context_operation_kept s context.NewConcurrent v vs = tt
context_operation_kept s context.NewParallel v vs = tt
context_operation_kept s context.NewIsolated v vs = tt
context_operation_kept s context.SpawnConcurrent v vs = tt
context_operation_kept s context.SpawnParallel v vs = tt
context_operation_kept s context.SpawnIsolated v vs = tt

answers_kept : (s : State) (k : ℕ) (a : Answer) → Keeps s.cells (builtins.answers s k a)
answers_kept s k (answer.Gives v) = unchanged s.cells
answers_kept s k answer.Itself = unchanged s.cells
answers_kept s k (answer.Makes vs) = makes_cell_kept s (Array vs) gives tt (λ s' v h. h)
answers_kept s k (answer.Raises raise) = tt
answers_kept s k answer.Stuck = tt

array_cell_kept : (s : State) (k : ℕ) (o : ArrayOperation) (vs : List Value) (cell : Option Cell) → slice_get s.cells k ≡ cell → Keeps s.cells (builtins.on_array_cell s k o vs cell)
array_cell_kept s k o vs None e = tt
array_cell_kept s k o vs (Some (Array items)) e =
    let change = on_array o items vs in
    let there = set_cell s k (Array change.after) in
    from_cells s.cells there.cells (builtins.answers there k change.answer) (set_one s.cells k (Array items) (Array change.after) e tt) (answers_kept there k change.answer)
array_cell_kept s k o vs (Some (Object it)) e = tt
array_cell_kept s k o vs (Some (Hash pairs)) e = tt
array_cell_kept s k o vs (Some (Chan c)) e = tt
array_cell_kept s k o vs (Some (Context n)) e = tt

hash_cell_kept : (s : State) (k : ℕ) (o : HashOperation) (vs : List Value) (cell : Option Cell) → slice_get s.cells k ≡ cell → Keeps s.cells (builtins.on_hash_cell s k o vs cell)
hash_cell_kept s k o vs None e = tt
hash_cell_kept s k o vs (Some (Hash pairs)) e =
    let change = on_hash o pairs vs in
    let there = set_cell s k (Hash change.after) in
    from_cells s.cells there.cells (builtins.answers there k change.answer) (set_one s.cells k (Hash pairs) (Hash change.after) e tt) (answers_kept there k change.answer)
hash_cell_kept s k o vs (Some (Object it)) e = tt
hash_cell_kept s k o vs (Some (Array items)) e = tt
hash_cell_kept s k o vs (Some (Chan c)) e = tt
hash_cell_kept s k o vs (Some (Context n)) e = tt

pub built_in_kept : (P : World) (s : State) (i : ℕ) (choice : Choice) (receiver : Option Value) (vs : List Value) (o : Method_of) → Keeps s.cells (builtins.built_in P s i choice receiver vs o)
built_in_kept P s i choice None vs o = tt
built_in_kept P s i choice (Some v) vs (operation.Scalar o) = outcome_kept s (scalar o v vs)
built_in_kept P s i choice (Some v) vs (operation.Array o) =
    or_stuck_kept s.cells (λ k. builtins.on_array_cell s k o vs (slice_get s.cells k)) (channels.cell_of v) (λ k e. array_cell_kept s k o vs (slice_get s.cells k) refl)
built_in_kept P s i choice (Some v) vs (operation.Hash o) =
    or_stuck_kept s.cells (λ k. builtins.on_hash_cell s k o vs (slice_get s.cells k)) (channels.cell_of v) (λ k e. hash_cell_kept s k o vs (slice_get s.cells k) refl)
built_in_kept P s i choice (Some v) vs (operation.Channel o) = operates_kept P s i choice o (Some v) vs
built_in_kept P s i choice (Some v) vs (operation.Context o) = context_operation_kept s o v vs

-- ---- the other lines of the table

variable_cells : (s : State) (x : Variable) (v : Value) (fiber : Option Fiber) → (set_variable s x v fiber).cells ≡ s.cells
variable_cells s x v None = refl
variable_cells s x v (Some fiber) = refl

written_kept : (s : State) (i : ℕ) (fiber : Fiber) (x : Local) (v w : Value) (slot : Option Slot) → Keeps s.cells (or_stuck (λ s'. gives s' w) (written s i fiber x v slot))
written_kept s i fiber x v w None = tt
written_kept s i fiber x v w (Some (Own old)) = unchanged s.cells
written_kept s i fiber x v w (Some (Shared y)) = subst (Evolve s.cells) (sym (variable_cells s y v (slice_get s.fibers y.fiber))) (unchanged s.cells)

reads_field_kept : (s : State) (name : NameId) (receiver : Option Value) → Keeps s.cells (r.reads_field s name receiver)
reads_field_kept s name None = tt
reads_field_kept s name (Some (value.Ref cell)) =
    or_stuck_kept s.cells (λ (o : Instance). gives s (r.field_in name o.fields)) (r.object_in (slice_get s.cells cell.cell)) (λ o e. unchanged s.cells)
reads_field_kept s name (Some value.Nil) = tt
reads_field_kept s name (Some (value.Flag b)) = tt
reads_field_kept s name (Some (value.Small n)) = tt
reads_field_kept s name (Some (value.Big n)) = tt
reads_field_kept s name (Some (value.Word text)) = tt

-- an object stays one
object_set : (cells : List Cell) (k : ℕ) (o new : Instance) (cell : Option Cell) → slice_get cells k ≡ cell → r.object_in cell ≡ Some o → Evolve cells (slice_set cells k (Object new))
object_set cells k o new None at is = absurd (none-some o is)
object_set cells k o new (Some (Object old)) at is = set_one cells k (Object old) (Object new) at tt
object_set cells k o new (Some (Array vs)) at is = absurd (none-some o is)
object_set cells k o new (Some (Hash pairs)) at is = absurd (none-some o is)
object_set cells k o new (Some (Chan c)) at is = absurd (none-some o is)
object_set cells k o new (Some (Context n)) at is = absurd (none-some o is)

sets_field_kept : (s : State) (name : NameId) (v : Value) (receiver : Option Value) → Keeps s.cells (r.sets_field s name v receiver)
sets_field_kept s name v None = tt
sets_field_kept s name v (Some (value.Ref cell)) =
    or_stuck_kept s.cells (λ (o : Instance). gives (set_cell s cell.cell (Object (record o { fields = r.set_field name v o.fields }))) v) (r.object_in (slice_get s.cells cell.cell))
    (λ o e. object_set s.cells cell.cell o (record o { fields = r.set_field name v o.fields }) (slice_get s.cells cell.cell) refl e)
sets_field_kept s name v (Some value.Nil) = tt
sets_field_kept s name v (Some (value.Flag b)) = tt
sets_field_kept s name v (Some (value.Small n)) = tt
sets_field_kept s name v (Some (value.Big n)) = tt
sets_field_kept s name v (Some (value.Word text)) = tt

raises_kept : (cells : List Cell) (v : Value) → Keeps cells (r.raises_value v)
raises_kept cells (value.Word text) = tt
raises_kept cells value.Nil = tt
raises_kept cells (value.Flag b) = tt
raises_kept cells (value.Small n) = tt
raises_kept cells (value.Big n) = tt
raises_kept cells (value.Ref cell) = tt

calls_with_kept : (P : World) (s : State) (i : ℕ) (fiber : Fiber) (choice : Choice) (name : NameId) (written : Bool) (vs : List Value) (given : Option Given) → Keeps s.cells (r.calls_with P s i fiber choice name written vs given)
calls_with_kept P s i fiber choice name false vs given =
    called_kept P s i fiber name false (calls.receiver_here fiber) vs given (builtins.built_in P s i choice (calls.receiver_here fiber) vs) (built_in_kept P s i choice (calls.receiver_here fiber) vs)
calls_with_kept P s i fiber choice name true [] given = tt
calls_with_kept P s i fiber choice name true (v ∷ vs) given =
    called_kept P s i fiber name true (Some v) vs given (builtins.built_in P s i choice (Some v) vs) (built_in_kept P s i choice (Some v) vs)

makes_kept : (P : World) (s : State) (i : ℕ) (fiber : Fiber) (vs : List Value) (block : Option NodeId) (what : Option Made) → Keeps s.cells (r.makes P s i fiber vs block what)
makes_kept P s i fiber vs block (Some (made.Object class)) = object_kept P s i fiber class vs
makes_kept P s i fiber vs block (Some made.Channel) = channel_kept s vs
makes_kept P s i fiber vs block (Some made.Concurrent) = concurrent_kept s vs
makes_kept P s i fiber vs block (Some made.Parallel) = parallel_kept s vs
makes_kept P s i fiber vs (Some n) (Some made.Isolated) = isolated_kept P s fiber n vs
makes_kept P s i fiber vs None (Some made.Isolated) = tt
makes_kept P s i fiber vs block None = tt

hash_kept : (s : State) (pairs : Option (List (Value × Value))) → Keeps s.cells (r.hash_made s pairs)
hash_kept s None = tt
hash_kept s (Some pairs) = makes_cell_kept s (Hash pairs) gives tt (λ s' v h. h)

-- Forms that want one value have any other number of them.
one_value : (cells : List Cell) (go : List Value → Act) (vs : List Value) → Keeps cells (go []) → ((v : Value) → Keeps cells (go (v ∷ []))) → ((v w : Value) (us : List Value) → Keeps cells (go (v ∷ w ∷ us)))
    → Keeps cells (go vs)
one_value cells go [] none one many = none
one_value cells go (v ∷ []) none one many = one v
one_value cells go (v ∷ w ∷ vs) none one many = many v w vs

acts_kept : (P : World) (s : State) (i : ℕ) (fiber : Fiber) (choice : Choice) (form : Form) (ps : Terms) (vs : List Value) → Keeps s.cells (r.acts P s i fiber choice form ps vs)
acts_kept P s i fiber choice (f.Local x) ps vs = or_stuck_kept s.cells (gives s) (read s (slot_of fiber x)) (λ v e. unchanged s.cells)
acts_kept P s i fiber choice (f.Set x) ps vs = one_value s.cells (r.acts P s i fiber choice (f.Set x) ps) vs tt (λ v. written_kept s i fiber x v v (slot_of fiber x)) (λ v w us. tt)
acts_kept P s i fiber choice (f.Field name) ps vs = reads_field_kept s name (calls.receiver_here fiber)
acts_kept P s i fiber choice (f.SetField name) ps vs = one_value s.cells (r.acts P s i fiber choice (f.SetField name) ps) vs tt (λ v. sets_field_kept s name v (calls.receiver_here fiber)) (λ v w us. tt)
acts_kept P s i fiber choice f.KeywordSelf ps vs = or_stuck_kept s.cells (gives s) (calls.receiver_here fiber) (λ v e. unchanged s.cells)
acts_kept P s i fiber choice f.Seq ps vs = unchanged s.cells
acts_kept P s i fiber choice f.If ps vs = one_value s.cells (r.acts P s i fiber choice f.If ps) vs tt (λ v. unchanged s.cells) (λ v w us. tt)
acts_kept P s i fiber choice f.And ps vs = one_value s.cells (r.acts P s i fiber choice f.And ps) vs tt (λ v. unchanged s.cells) (λ v w us. tt)
acts_kept P s i fiber choice f.Or ps vs = one_value s.cells (r.acts P s i fiber choice f.Or ps) vs tt (λ v. unchanged s.cells) (λ v w us. tt)
acts_kept P s i fiber choice f.Not ps vs = one_value s.cells (r.acts P s i fiber choice f.Not ps) vs tt (λ v. unchanged s.cells) (λ v w us. tt)
acts_kept P s i fiber choice f.IsA ps vs = one_value s.cells (r.acts P s i fiber choice f.IsA ps) vs tt (λ v. unchanged s.cells) (λ v w us. tt)
acts_kept P s i fiber choice f.While ps vs = unchanged s.cells
acts_kept P s i fiber choice f.Again ps vs = tt
acts_kept P s i fiber choice f.Break ps vs = tt
acts_kept P s i fiber choice f.Next ps vs = one_value s.cells (r.acts P s i fiber choice f.Next ps) vs tt (λ v. tt) (λ v w us. tt)
acts_kept P s i fiber choice f.Return ps vs = one_value s.cells (r.acts P s i fiber choice f.Return ps) vs tt (λ v. tt) (λ v w us. tt)
acts_kept P s i fiber choice (f.Call name written block) ps vs = calls_with_kept P s i fiber choice name written vs (r.block_of fiber block ps)
acts_kept P s i fiber choice f.Super ps vs =
    super_kept P s i fiber vs (builtins.built_in P s i choice (calls.receiver_here fiber) vs) (built_in_kept P s i choice (calls.receiver_here fiber) vs)
acts_kept P s i fiber choice (f.New question block) ps vs =
    makes_kept P s i fiber vs (if block then r.last_number (r.numbers ps) else None) (if question then None else r.atom_of P (r.first_of (r.numbers ps)))
acts_kept P s i fiber choice f.Yield ps vs = yield_kept P s i fiber vs
acts_kept P s i fiber choice (f.Spawn context) ps vs = spawned_kept P s fiber vs (r.last_number (r.numbers ps))
acts_kept P s i fiber choice f.Raise ps vs = one_value s.cells (r.acts P s i fiber choice f.Raise ps) vs tt (raises_kept s.cells) (λ v w us. tt)
acts_kept P s i fiber choice f.Puts ps vs =
    one_value s.cells (r.acts P s i fiber choice f.Puts ps) vs tt (λ v. or_stuck_kept s.cells (r.puts_text s) (shown v) (λ text e. unchanged s.cells)) (λ v w us. tt)
acts_kept P s i fiber choice f.Pause ps vs = unchanged s.cells
acts_kept P s i fiber choice (f.Array of) ps vs = makes_cell_kept s (Array vs) gives tt (λ s' v h. h)
acts_kept P s i fiber choice (f.Hash of) ps vs = hash_kept s (builtins.hash_of vs)
acts_kept P s i fiber choice (f.Select otherwise) ps vs = selects_kept P s i choice otherwise (channels.clauses ps) (part_at (length (channels.clauses ps)) ps)
acts_kept P s i fiber choice f.Nil ps vs = tt
acts_kept P s i fiber choice f.True ps vs = tt
acts_kept P s i fiber choice f.False ps vs = tt
acts_kept P s i fiber choice (f.Int32 n) ps vs = tt
acts_kept P s i fiber choice (f.Int64 n) ps vs = tt
acts_kept P s i fiber choice (f.Text t) ps vs = tt
acts_kept P s i fiber choice f.Received ps vs = tt
acts_kept P s i fiber choice f.Send ps vs = tt
acts_kept P s i fiber choice f.Receive ps vs = tt
acts_kept P s i fiber choice f.ReceiveOrNil ps vs = tt
acts_kept P s i fiber choice (f.Atom name) ps vs = tt
acts_kept P s i fiber choice f.Union ps vs = tt
acts_kept P s i fiber choice (f.Program scope) ps vs = tt
acts_kept P s i fiber choice (f.Def name scope result written) ps vs = tt
acts_kept P s i fiber choice (f.Block scope) ps vs = tt
acts_kept P s i fiber choice (f.Parameter slot restricted) ps vs = tt
acts_kept P s i fiber choice (f.Class name superclass) ps vs = tt
acts_kept P s i fiber choice (f.TypeParameter name) ps vs = tt
acts_kept P s i fiber choice (f.Module name) ps vs = tt
acts_kept P s i fiber choice (f.Include name) ps vs = tt
acts_kept P s i fiber choice (f.Declaration name) ps vs = tt

pub act_kept : (P : World) (s : State) (i : ℕ) (fiber : Fiber) (choice : Choice) (t : Term) → Keeps s.cells (r.act P s i fiber choice t)
act_kept P s i fiber choice (Val v) = tt
act_kept P s i fiber choice (Node n form ps) = acts_kept P s i fiber choice form ps (r.values form ps)
act_kept P s i fiber choice (Turn fresh now) = unchanged s.cells
act_kept P s i fiber choice (Frame given t) = unchanged s.cells
act_kept P s i fiber choice (Body t) = unchanged s.cells
act_kept P s i fiber choice (Sent channel item) = sent_kept s channel item

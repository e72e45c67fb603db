-- What each reduction does to channels.
use Rattle.std.proofs.Common.{◌≡◌, ℕ, Bool, true, false, not, List, [], ◌∷◌, refl, Option, Some, None, length, map, slice_get, nat_lt, if◌then◌else◌}
use Rattle.cr_base.specs.declared.ids.ClassId.{ClassId}
use Rattle.cr_base.specs.declared.ids.MethodId.{MethodId}
use Rattle.cr_base.specs.declared.ids.NameId.{NameId}
use Rattle.cr_value.specs.declared.value.Value.{Value}
use Rattle.cr_builtins.specs.declared.operation.Operation.{Operation as Method_of}
use Rattle.cr_core.specs.declared.scope.Scope.{Scope}
use Rattle.cr_meaning.specs.World.{World, Target, Method, Builtin, Further, nothing, goes_to, no_match}
use Rattle.cr_meaning.specs.State.{Cell, Object, Given, Locals, Fiber, State, with_cell}
use Rattle.cr_meaning.specs.Channels.{channel_in}
use Rattle.cr_meaning.specs.Locals.{begun_scope, scope_at}
use Rattle.cr_builtins.specs.declared.raise.Raise.TheVariants.{Limit}
use Rattle.cr_meaning.specs.Limits.{most_cells, most_frames}
use Rattle.cr_meaning.specs.Redex.{frames}
use Rattle.cr_meaning.specs.Act.{Act, Becomes, Jumps, Raises, Language, Stuck, Blocked, BadChoice, gives, or_stuck, without_clause}
use Rattle.cr_meaning.specs.Calls as calls
use Rattle.cr_meaning.specs.Histories.{Evolves, Evolve}
use Rattle.cr_meaning.proofs.Evolving.{unchanged, later, one_more}

-- where a redex becomes a term, the channels evolve
abbrev pub Keeps : List Cell → Act → Type 0
Keeps cells (Becomes s t) = Evolve cells s.cells
Keeps cells (Jumps e) = Unit {0}
Keeps cells (Raises r) = Unit {0}
Keeps cells Stuck = Unit {0}
Keeps cells Blocked = Unit {0}
Keeps cells BadChoice = Unit {0}

-- ---- what several share

pub if_kept : (cells : List Cell) (b : Bool) (a c : Act) → Keeps cells a → Keeps cells c → Keeps cells (if b then a else c)
if_kept cells true a c h g = h
if_kept cells false a c h g = g

pub or_stuck_kept : {A : Type 0} (cells : List Cell) (go : A → Act) (o : Option A) → ((x : A) → o ≡ Some x → Keeps cells (go x)) → Keeps cells (or_stuck go o)
or_stuck_kept cells go None h = tt
or_stuck_kept cells go (Some x) h = h x refl

pub clause_kept : (cells : List Cell) (o : Option ℕ) (a : Act) → Keeps cells a → Keeps cells (without_clause o a)
clause_kept cells None a h = h
clause_kept cells (Some n) a h = tt

pub full_kept : (cells : List Cell) (number most : ℕ) (a : Act) → Keeps cells a → Keeps cells (calls.unless_full number most a)
full_kept cells number most a h = if_kept cells (nat_lt number most) a (Raises (Language Limit)) h tt

pub makes_cell_kept : (s : State) (cell : Cell) (go : State → Value → Act) → Evolves None (channel_in (Some cell)) → ((s' : State) (v : Value) → Evolve s.cells s'.cells → Keeps s.cells (go s' v))
    → Keeps s.cells (calls.makes_cell s cell go)
makes_cell_kept s cell go new h =
    full_kept s.cells (length s.cells) most_cells (go (with_cell s cell) (calls.reference (length s.cells))) (h (with_cell s cell) (calls.reference (length s.cells)) (one_more s.cells cell new))

-- ---- calls

pub call_kept : (P : World) (s : State) (i : ℕ) (fiber : Fiber) (value receiver : Option Value) (m : MethodId) (vs : List Value) (given : Option Given)
    → Keeps s.cells (calls.calls P s i fiber value receiver m vs given)
call_kept P s i fiber value receiver m vs given =
    or_stuck_kept s.cells (λ scope. calls.unless_full (frames fiber.term) most_frames (calls.begins_call P s i fiber value receiver m given scope (begun_scope i scope vs fiber.variables)))
    (scope_at P (P.def_of m))
    (λ scope e. full_kept s.cells (frames fiber.term) most_frames (calls.begins_call P s i fiber value receiver m given scope (begun_scope i scope vs fiber.variables)) (unchanged s.cells))

pub goes_on_kept : (P : World) (s : State) (i : ℕ) (fiber : Fiber) (receiver : Option Value) (vs : List Value) (given : Option Given) (built_in : Method_of → Act) (target : Option Target)
    → ((o : Method_of) → Keeps s.cells (built_in o)) → Keeps s.cells (calls.goes_on P s i fiber receiver vs given built_in target)
goes_on_kept P s i fiber receiver vs given built_in None h = tt
goes_on_kept P s i fiber receiver vs given built_in (Some (Method m)) h = call_kept P s i fiber None (calls.receiver_for P m receiver) m vs given
goes_on_kept P s i fiber receiver vs given built_in (Some (Builtin o)) h = h o

pub called_kept : (P : World) (s : State) (i : ℕ) (fiber : Fiber) (name : NameId) (written : Bool) (receiver : Option Value) (vs : List Value) (given : Option Given) (built_in : Method_of → Act)
    → ((o : Method_of) → Keeps s.cells (built_in o)) → Keeps s.cells (calls.called P s i fiber name written receiver vs given built_in)
called_kept P s i fiber name written receiver vs given built_in h =
    goes_on_kept P s i fiber receiver vs given built_in
    (P.choose (calls.class_of_receiver P s receiver) name (map (calls.class_of P s) vs) (calls.is_given given) (not written)) h

nowhere_kept : (s : State) (initialize : Bool) (vs : List Value) → Keeps s.cells (calls.goes_nowhere s initialize vs)
nowhere_kept s true [] = unchanged s.cells
nowhere_kept s true (v ∷ vs) = tt
nowhere_kept s false vs = tt

further_kept : (P : World) (s : State) (i : ℕ) (fiber : Fiber) (initialize : Bool) (vs : List Value) (built_in : Method_of → Act) (further : Further)
    → ((o : Method_of) → Keeps s.cells (built_in o)) → Keeps s.cells (calls.goes_further P s i fiber initialize vs built_in further)
further_kept P s i fiber initialize vs built_in nothing h = nowhere_kept s initialize vs
further_kept P s i fiber initialize vs built_in no_match h = tt
further_kept P s i fiber initialize vs built_in (goes_to target) h = goes_on_kept P s i fiber (calls.receiver_here fiber) vs None built_in (Some target) h

pub super_kept : (P : World) (s : State) (i : ℕ) (fiber : Fiber) (vs : List Value) (built_in : Method_of → Act)
    → ((o : Method_of) → Keeps s.cells (built_in o)) → Keeps s.cells (calls.calls_super P s i fiber vs built_in)
super_kept P s i fiber vs built_in h =
    or_stuck_kept s.cells
    (λ m. calls.goes_further P s i fiber (P.is_initialize m) vs built_in (P.choose_super (calls.class_of_receiver P s (calls.receiver_here fiber)) m (map (calls.class_of P s) vs)))
    (calls.method_in (calls.locals_here fiber))
    (λ m e. further_kept P s i fiber (P.is_initialize m) vs built_in (P.choose_super (calls.class_of_receiver P s (calls.receiver_here fiber)) m (map (calls.class_of P s) vs)) h)

-- ---- objects

pub from_cells : (cells cells' : List Cell) (a : Act) → Evolve cells cells' → Keeps cells' a → Keeps cells a
from_cells cells cells' (Becomes s t) first h = later cells cells' s.cells first h
from_cells cells cells' (Jumps e) first h = tt
from_cells cells cells' (Raises r) first h = tt
from_cells cells cells' Stuck first h = tt
from_cells cells cells' Blocked first h = tt
from_cells cells cells' BadChoice first h = tt

initializes_kept : (P : World) (i : ℕ) (fiber : Fiber) (vs : List Value) (s' : State) (object : Value) (target : Target) → Keeps s'.cells (calls.initializes_by P i fiber vs s' object target)
initializes_kept P i fiber vs s' object (Method m) = call_kept P s' i fiber (Some object) (Some object) m vs None
initializes_kept P i fiber vs s' object (Builtin o) = tt

initialized_by_kept : (P : World) (s : State) (i : ℕ) (fiber : Fiber) (class : ClassId) (vs : List Value) (target : Target)
    → Keeps s.cells (calls.makes_cell s (Object (record { class = class; fields = [] })) (λ s' object. calls.initializes_by P i fiber vs s' object target))
initialized_by_kept P s i fiber class vs target =
    makes_cell_kept s (Object (record { class = class; fields = [] })) (λ s' object. calls.initializes_by P i fiber vs s' object target) tt
    (λ s' v made. from_cells s.cells s'.cells (calls.initializes_by P i fiber vs s' v target) made (initializes_kept P i fiber vs s' v target))

initialized_kept : (P : World) (s : State) (i : ℕ) (fiber : Fiber) (class : ClassId) (vs : List Value) (further : Further) → Keeps s.cells (calls.initialized P s i fiber class vs further)
initialized_kept P s i fiber class [] nothing = makes_cell_kept s (Object (record { class = class; fields = [] })) gives tt (λ s' v made. made)
initialized_kept P s i fiber class (v ∷ vs) nothing = tt
initialized_kept P s i fiber class [] no_match = tt
initialized_kept P s i fiber class (v ∷ vs) no_match = tt
initialized_kept P s i fiber class [] (goes_to target) = initialized_by_kept P s i fiber class [] target
initialized_kept P s i fiber class (v ∷ vs) (goes_to target) = initialized_by_kept P s i fiber class (v ∷ vs) target

pub object_kept : (P : World) (s : State) (i : ℕ) (fiber : Fiber) (class : ClassId) (vs : List Value) → Keeps s.cells (calls.makes_object P s i fiber class vs)
object_kept P s i fiber class vs = initialized_kept P s i fiber class vs (P.choose_initialize class (map (calls.class_of P s) vs))

-- ---- blocks

block_kept : (P : World) (s : State) (i : ℕ) (fiber : Fiber) (vs : List Value) (given : Given) (around : Option Locals) (scope : Option Scope) → Keeps s.cells (calls.runs_block P s i fiber vs given around scope)
block_kept P s i fiber vs given None scope = tt
block_kept P s i fiber vs given (Some around) None = tt
block_kept P s i fiber vs given (Some around) (Some scope) = unchanged s.cells

pub yield_kept : (P : World) (s : State) (i : ℕ) (fiber : Fiber) (vs : List Value) → Keeps s.cells (calls.yields P s i fiber vs)
yield_kept P s i fiber vs =
    or_stuck_kept s.cells (λ (given : Given). calls.runs_block P s i fiber vs given (slice_get fiber.locals given.home) (scope_at P given.block)) (calls.given_in (calls.locals_here fiber))
    (λ given e. block_kept P s i fiber vs given (slice_get fiber.locals given.home) (scope_at P given.block))

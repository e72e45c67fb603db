-- Calls of methods, `super`, the making of objects, and `yield`.
use Rattle.std.specs.Prelude.{ℕ, nat_lt, Bool, true, false, not, if◌then◌else◌, List, [], ◌∷◌, Option, Some, None, length, map, slice_get}
use Rattle.cr_base.specs.declared.ids.ClassId.{ClassId}
use Rattle.cr_base.specs.declared.ids.MethodId.{MethodId}
use Rattle.cr_base.specs.declared.ids.NameId.{NameId}
use Rattle.cr_value.specs.declared.value.Value.{Value}
use Rattle.cr_value.specs.declared.value.Value.TheVariants.{Nil, Ref}
use Rattle.cr_builtins.specs.declared.raise.Raise.TheVariants.{Limit}
use Rattle.cr_builtins.specs.declared.operation.Operation.{Operation}
use Rattle.cr_core.specs.declared.scope.Scope.{Scope}
use Rattle.cr_meaning.specs.World.{World, Target, Method, Builtin, Further, nothing, goes_to, no_match}
use Rattle.cr_meaning.specs.Term.{Frame, Body, tree}
use Rattle.cr_meaning.specs.State.{Cell, Object, Array, Hash, Chan, Context, Kind, Concurrent, Parallel, Isolated, Where, Given, Locals, Fiber, State, set_fiber, with_cell}
use Rattle.cr_meaning.specs.Redex.{frames}
use Rattle.cr_meaning.specs.Locals.{Begun, begun_scope, scope_at, entered, of_call, of_block, innermost}
use Rattle.cr_meaning.specs.Limits.{most_frames, most_cells}
use Rattle.cr_meaning.specs.Act.{Act, Becomes, Raises, Stuck, Language, gives, or_stuck}

-- ---- classes

abbrev pub class_of_kind : World → Kind → ClassId
class_of_kind P Concurrent = P.concurrent_class
class_of_kind P Parallel = P.parallel_class
class_of_kind P (Isolated fiber) = P.isolated_class

abbrev pub class_of_where : World → Option Where → ClassId
class_of_where P None = P.object_class
class_of_where P (Some w) = class_of_kind P w.kind

abbrev pub class_of_cell : World → State → Option Cell → ClassId
class_of_cell P s None = P.object_class
class_of_cell P s (Some (Object o)) = o.class
class_of_cell P s (Some (Array vs)) = P.array_class
class_of_cell P s (Some (Hash pairs)) = P.hash_class
class_of_cell P s (Some (Chan c)) = P.channel_class
class_of_cell P s (Some (Context k)) = class_of_where P (slice_get s.contexts k)

abbrev pub class_of : World → State → Value → ClassId
class_of P s (Ref r) = class_of_cell P s (slice_get s.cells r.cell)
class_of P s v = P.class_of v

-- At the top level and in its methods there is no receiver, and its class is that of objects.
abbrev pub class_of_receiver : World → State → Option Value → ClassId
class_of_receiver P s None = P.object_class
class_of_receiver P s (Some v) = class_of P s v

abbrev pub locals_here : Fiber → Option Locals
locals_here fiber = slice_get fiber.locals (innermost fiber)

abbrev pub receiver_in : Option Locals → Option Value
receiver_in None = None
receiver_in (Some l) = l.receiver

-- the receiver of the call in progress
abbrev pub receiver_here : Fiber → Option Value
receiver_here fiber = receiver_in (locals_here fiber)

-- ---- calls of methods

-- a reduction that would make one more than so many raises
abbrev pub unless_full : ℕ → ℕ → Act → Act
unless_full number most a = if nat_lt number most then a else Raises (Language Limit)

abbrev pub begins_call : World → State → ℕ → Fiber → Option Value → Option Value → MethodId → Option Given → Scope → Begun → Act
begins_call P s i fiber gives receiver m given scope b =
    Becomes (set_fiber s i (entered fiber b (of_call b receiver m given))) (Frame gives (tree P scope.body))

-- The call of a method by fiber i, with this receiver; it gives its value, or what is told.
abbrev pub calls : World → State → ℕ → Fiber → Option Value → Option Value → MethodId → List Value → Option Given → Act
calls P s i fiber gives receiver m vs given =
    or_stuck (λ scope. unless_full (frames fiber.term) most_frames (begins_call P s i fiber gives receiver m given scope (begun_scope i scope vs fiber.variables)))
    (scope_at P (P.def_of m))

-- a method of the top level has no receiver
abbrev pub receiver_for : World → MethodId → Option Value → Option Value
receiver_for P m receiver = if P.is_top m then None else receiver

-- what a call finds: a method, or a built-in one, which goes on so
abbrev pub goes_on : World → State → ℕ → Fiber → Option Value → List Value → Option Given → (Operation → Act) → Option Target → Act
goes_on P s i fiber receiver vs given built_in None = Stuck
goes_on P s i fiber receiver vs given built_in (Some (Method m)) = calls P s i fiber None (receiver_for P m receiver) m vs given
goes_on P s i fiber receiver vs given built_in (Some (Builtin operation)) = built_in operation

abbrev pub is_given : Option Given → Bool
is_given None = false
is_given (Some given) = true

-- A call that names no receiver goes on to the methods of the top level.
abbrev pub called : World → State → ℕ → Fiber → NameId → (written : Bool) → Option Value → List Value → Option Given → (Operation → Act) → Act
called P s i fiber name written receiver vs given built_in =
    goes_on P s i fiber receiver vs given built_in
    (P.choose (class_of_receiver P s receiver) name (map (class_of P s) vs) (is_given given) (not written))

-- ---- `super`

abbrev pub method_in : Option Locals → Option MethodId
method_in None = None
method_in (Some l) = l.method

-- In an `initialize` with no further one it gives nil, and takes no argument. For any other method there is no method then.
abbrev pub goes_nowhere : State → (initialize : Bool) → List Value → Act
goes_nowhere s true [] = gives s Nil
goes_nowhere s true (v ∷ vs) = Stuck
goes_nowhere s false vs = Stuck

abbrev pub goes_further : World → State → ℕ → Fiber → (initialize : Bool) → List Value → (Operation → Act) → Further → Act
goes_further P s i fiber initialize vs built_in nothing = goes_nowhere s initialize vs
goes_further P s i fiber initialize vs built_in no_match = Stuck
goes_further P s i fiber initialize vs built_in (goes_to target) = goes_on P s i fiber (receiver_here fiber) vs None built_in (Some target)

abbrev pub calls_super : World → State → ℕ → Fiber → List Value → (Operation → Act) → Act
calls_super P s i fiber vs built_in =
    or_stuck
    (λ m. goes_further P s i fiber (P.is_initialize m) vs built_in (P.choose_super (class_of_receiver P s (receiver_here fiber)) m (map (class_of P s) vs)))
    (method_in (locals_here fiber))

-- ---- objects

-- a reference to a cell by its number
abbrev pub reference : ℕ → Value
reference k = Ref (record { cell = k; atom = 0 })

-- A new cell, and what goes on with the reference to it.
abbrev pub makes_cell : State → Cell → (State → Value → Act) → Act
makes_cell s cell go = unless_full (length s.cells) most_cells (go (with_cell s cell) (reference (length s.cells)))

abbrev pub initializes_by : World → ℕ → Fiber → List Value → State → Value → Target → Act
initializes_by P i fiber vs s object (Method m) = calls P s i fiber (Some object) (Some object) m vs None
initializes_by P i fiber vs s object (Builtin operation) = Stuck

-- The `initialize` that is found runs, and its call gives the object. Where there is none, nor an argument, the object is all.
abbrev pub initialized : World → State → ℕ → Fiber → ClassId → List Value → Further → Act
initialized P s i fiber class [] nothing = makes_cell s (Object (record { class = class; fields = [] })) gives
initialized P s i fiber class (v ∷ vs) nothing = Stuck
initialized P s i fiber class vs no_match = Stuck
initialized P s i fiber class vs (goes_to target) =
    makes_cell s (Object (record { class = class; fields = [] })) (λ s' object. initializes_by P i fiber vs s' object target)

abbrev pub makes_object : World → State → ℕ → Fiber → ClassId → List Value → Act
makes_object P s i fiber class vs = initialized P s i fiber class vs (P.choose_initialize class (map (class_of P s) vs))

-- ---- blocks

abbrev pub begins_block : World → State → ℕ → Fiber → ℕ → Locals → Scope → Begun → Act
begins_block P s i fiber home around scope b = Becomes (set_fiber s i (entered fiber b (of_block b home around))) (Body (tree P scope.body))

abbrev pub runs_block : World → State → ℕ → Fiber → List Value → Given → Option Locals → Option Scope → Act
runs_block P s i fiber vs given None scope = Stuck
runs_block P s i fiber vs given (Some around) None = Stuck
runs_block P s i fiber vs given (Some around) (Some scope) = begins_block P s i fiber given.home around scope (begun_scope i scope vs fiber.variables)

abbrev pub given_in : Option Locals → Option Given
given_in None = None
given_in (Some l) = l.given

-- The block that the call in progress was given runs; values past its parameters are dropped.
abbrev pub yields : World → State → ℕ → Fiber → List Value → Act
yields P s i fiber vs =
    or_stuck (λ (given : Given). runs_block P s i fiber vs given (slice_get fiber.locals given.home) (scope_at P given.block)) (given_in (locals_here fiber))

-- Small programs, each to count what a form takes.
use Rattle.std.specs.Prelude.{ℕ, pos, ◌+◌, ◌==◌, true, false, if◌then◌else◌, List, [], ◌∷◌, codes, Option, Some, None}
use Rattle.cr_base.specs.declared.ids.NameId.{NameId}
use Rattle.cr_builtins.specs.declared.operation.Operation.TheVariants as operation
use Rattle.cr_builtins.specs.declared.operation.ScalarOperation.TheVariants as scalar
use Rattle.cr_builtins.specs.declared.operation.NumberOperation.TheVariants as number
use Rattle.cr_builtins.specs.declared.operation.Reckoning.TheVariants as reckoning
use Rattle.cr_builtins.specs.declared.operation.Comparison.TheVariants as comparison
use Rattle.cr_builtins.specs.declared.operation.ChannelOperation.TheVariants as channel
use Rattle.cr_builtins.specs.declared.operation.ContextOperation.TheVariants as context
use Rattle.cr_core.specs.Core.{Core, none, ◌⊕◌, size}
use Rattle.cr_core.specs.declared.form.Form.{Form}
use Rattle.cr_core.specs.declared.form.Form.TheVariants as f
use Rattle.cr_core.specs.declared.scope.ScopeKind.TheVariants.{Main, Method as OfMethod, Block as InBlock, Spawn}
use Rattle.cr_core.specs.declared.scope.Slot.{Slot}
use Rattle.cr_meaning.specs.World.{World, Target, Method, Builtin, nothing, goes_to, Object, Channel, Concurrent, Isolated}
use Rattle.cr_meaning.specs.Programs.{of, leaf, named, class, method, row, scope, text, local, and_then, new, slot, scope_with, world_of, initializing, call, method_of}

-- ---- statements alone

-- a program of these statements alone, with locals of these numbers
abbrev pub alone : List Slot → Core → World
alone slots statements =
    world_of (scope_with Main None 0 1 0 slots ∷ []) [] (of (f.Program (scope 0)) statements) (λ name. None) (λ c. nothing) (λ n. None) (λ m. row 0)

-- a method with this body, of no parameter, is called by its one name, and nothing else
abbrev pub of_a_call : Core → World
of_a_call body = world_of
    (scope_with Main None 0 (2 + size body) 0 [] ∷ scope_with OfMethod None 1 2 0 [] ∷ [])
    [] (of (f.Program (scope 0)) (method_of 0 1 body ⊕ of (f.Call (named 0) false false) none))
    (λ name. Some (Method (method 0))) (λ c. nothing) (λ n. None) (λ m. row 1)

-- a local of the only scope
abbrev pub x : Form
x = f.Local (local 0 0 0)

abbrev pub set_x : Core → Core
set_x value = of (f.Set (local 0 0 0)) value

-- while condition; body; end
abbrev pub looping : Core → Core → Core
looping condition body = of f.While (of f.If (condition ⊕ (and_then body (leaf f.Again) ⊕ leaf f.Nil)))

-- n.times do |i| end, with the method as the prelude has it
abbrev pub times_body : Core
times_body =
    and_then (of (f.Set (local 1 0 0)) (leaf (f.Int32 (pos 0))))
    (and_then
    (looping (call 1 (leaf (f.Local (local 1 0 0)) ⊕ leaf f.KeywordSelf))
    (and_then (of f.Yield (leaf (f.Local (local 1 0 0)))) (of (f.Set (local 1 0 0)) (call 2 (leaf (f.Local (local 1 0 0)) ⊕ leaf (f.Int32 (pos 1)))))))
    (leaf f.Nil))

abbrev pub times_choice : NameId → Option Target
times_choice name =
    if name.0 == 0 then Some (Method (method 0))
    else if name.0 == 1 then Some (Builtin (operation.Scalar (scalar.Int32 (number.Compare comparison.Less))))
    else Some (Builtin (operation.Scalar (scalar.Int32 (number.Reckon reckoning.Add))))

abbrev pub times : ℕ → World
times n = world_of
    (scope_with Main None 0 (2 + size times_body) 0 [] ∷ scope_with OfMethod None 1 2 0 (slot 3 false ∷ [])
    ∷ scope_with InBlock (Some (scope 0)) (2 + size times_body) (6 + size times_body) 1 (slot 3 false ∷ []) ∷ [])
    []
    (of (f.Program (scope 0))
    (method_of 0 1 times_body
    ⊕ of (f.Call (named 0) true true) (leaf (f.Int32 (pos n)) ⊕ of (f.Block (scope 2)) (leaf (f.Parameter 0 false) ⊕ leaf f.Nil))))
    times_choice (λ c. nothing) (λ m. None) (λ m. row 1)

-- a program of these statements alone, where each call goes to this built-in method
abbrev pub calling : Target → Core → World
calling target statements =
    world_of (scope_with Main None 0 1 0 [] ∷ []) [] (of (f.Program (scope 0)) statements) (λ name. Some target) (λ c. nothing) (λ n. None) (λ m. row 0)

-- ---- blocks

-- a method with this body is called by its one name, with this block, of no parameter
abbrev pub of_a_block : (body block : Core) → World
of_a_block body block = world_of
    (scope_with Main None 0 (2 + size body) 0 [] ∷ scope_with OfMethod None 1 2 0 [] ∷ scope_with InBlock (Some (scope 0)) (2 + size body) (4 + size body) 0 [] ∷ [])
    [] (of (f.Program (scope 0)) (method_of 0 1 body ⊕ of (f.Call (named 0) false true) (of (f.Block (scope 2)) block)))
    (λ name. Some (Method (method 0))) (λ c. nothing) (λ n. None) (λ m. row 1)

-- ---- objects

-- a class has one method, with this body, of no parameter: its object is made, and the method called
abbrev pub of_a_method : Core → World
of_a_method body = world_of
    (scope_with Main None 0 (3 + size body) 0 [] ∷ scope_with OfMethod None 2 3 0 [] ∷ [])
    [] (of (f.Program (scope 0)) (of (f.Class (named 6) None) (method_of 0 1 body) ⊕ call 0 (new none)))
    (λ name. Some (Method (method 0))) (λ c. nothing) (λ n. Some (Object (class 12))) (λ m. row 2)

-- a class has an `initialize` with this body, of no parameter: its object is made
abbrev pub of_an_initialize : Core → World
of_an_initialize body = initializing 0
    (world_of
    (scope_with Main None 0 (3 + size body) 0 [] ∷ scope_with OfMethod None 2 3 0 [] ∷ [])
    [] (of (f.Program (scope 0)) (of (f.Class (named 6) None) (method_of 7 1 body) ⊕ new none))
    (λ name. None) (λ c. goes_to (Method (method 0))) (λ n. Some (Object (class 12))) (λ m. row 2))

-- class A; def m; end; end; class B < A; def m; super(); end; end; B.new.m
abbrev pub of_a_super : World
of_a_super = record
    (world_of
    (scope_with Main None 0 7 0 [] ∷ scope_with OfMethod None 2 3 0 [] ∷ scope_with OfMethod None 5 6 0 [] ∷ [])
    [] (of (f.Program (scope 0))
    (of (f.Class (named 6) None) (method_of 0 1 (leaf f.Nil))
    ⊕ (of (f.Class (named 7) (Some (named 6))) (method_of 0 2 (leaf f.Super)) ⊕ call 0 (new none))))
    (λ name. Some (Method (method 1))) (λ c. nothing) (λ n. Some (Object (class 12))) (λ m. row (if m.0 == 0 then 2 else 5)))
    { choose_super = λ c m arguments. goes_to (Method (method 0)) }

-- ---- channels

abbrev pub channel_choice : NameId → Option Target
channel_choice name =
    if name.0 == 0 then Some (Builtin (operation.Channel channel.Send))
    else if name.0 == 1 then Some (Builtin (operation.Channel channel.Receive))
    else if name.0 == 2 then Some (Builtin (operation.Channel channel.ReceiveOrNil))
    else Some (Builtin (operation.Channel channel.Close))

-- x = Channel(Int32).new(1), and then these statements, which may have a second local
abbrev pub of_a_channel : Core → World
of_a_channel statements = world_of
    (scope_with Main None 0 1 0 (slot 0 false ∷ slot 1 false ∷ []) ∷ []) []
    (of (f.Program (scope 0)) (and_then (set_x (new (leaf (f.Int32 (pos 1))))) statements))
    channel_choice (λ c. nothing) (λ n. Some Channel) (λ m. row 0)

abbrev pub sends_one : Core
sends_one = call 0 (leaf x ⊕ leaf (f.Int32 (pos 1)))

-- x.send(1), and then a choice of one clause, which receives, and goes on so
abbrev pub receiving_choice : Core → Core
receiving_choice body = and_then sends_one (of (f.Select false) (of f.Receive (leaf x ⊕ body)))

-- ---- fibers and contexts

-- a `spawn` of an empty block, and then these statements
abbrev pub of_a_spawn : Core → World
of_a_spawn statements = world_of
    (scope_with Main None 0 1 0 [] ∷ scope_with Spawn (Some (scope 0)) 2 4 0 [] ∷ [])
    [] (of (f.Program (scope 0)) (and_then (of (f.Spawn false) (of (f.Block (scope 1)) (leaf f.Nil))) statements))
    (λ name. None) (λ c. nothing) (λ n. None) (λ m. row 0)

-- Fiber::ExecutionContext::Concurrent.new("c").spawn do end
abbrev pub spawning_in : World
spawning_in = world_of
    (scope_with Main None 0 1 0 [] ∷ scope_with Spawn (Some (scope 0)) 1 6 0 [] ∷ [])
    (codes "c" ∷ []) (of (f.Program (scope 0)) (of (f.Spawn true) (new (leaf (f.Text (text 0))) ⊕ of (f.Block (scope 1)) (leaf f.Nil))))
    (λ name. None) (λ c. nothing) (λ n. Some Concurrent) (λ m. row 0)

-- x = Fiber::ExecutionContext::Isolated.new("i") do end; x.wait
abbrev pub waiting : World
waiting = world_of
    (scope_with Main None 0 1 0 (slot 0 false ∷ []) ∷ scope_with Spawn (Some (scope 0)) 3 7 0 [] ∷ [])
    (codes "i" ∷ [])
    (of (f.Program (scope 0))
    (and_then (set_x (of (f.New false true) (leaf (f.Atom (named 0)) ⊕ (leaf (f.Text (text 0)) ⊕ of (f.Block (scope 1)) (leaf f.Nil))))) (call 3 (leaf x))))
    (λ name. Some (Builtin (operation.Context context.Wait))) (λ c. nothing) (λ n. Some Isolated) (λ m. row 0)

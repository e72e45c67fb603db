-- How many reductions each form takes.
use Rattle.std.specs.Prelude.{◌≡◌, ℕ, [], ◌∷◌, pos, false, true, Option, Some, None}
use Rattle.cr_builtins.specs.declared.operation.Operation.TheVariants as operation
use Rattle.cr_builtins.specs.declared.operation.ScalarOperation.TheVariants as scalar
use Rattle.cr_builtins.specs.declared.operation.NumberOperation.TheVariants as number
use Rattle.cr_builtins.specs.declared.operation.Reckoning.TheVariants as reckoning
use Rattle.cr_schedule.specs.declared.entry.Entry.{Entry}
use Rattle.cr_schedule.specs.declared.entry.Entry.TheVariants.{Steps, Wait, Resume}
use Rattle.cr_core.specs.Core.{◌⊕◌}
use Rattle.cr_core.specs.declared.form.Form.TheVariants as f
use Rattle.cr_meaning.specs.World.{World, Builtin}
use Rattle.cr_meaning.specs.State.{State, Status, Current, Done, Raised}
use Rattle.cr_meaning.specs.Run.{run, status_at}
use Rattle.cr_meaning.specs.Programs.{of, leaf, named, text, local, and_then, slot, call}
use Rattle.cr_meaning.specs.Counted.{alone, calling, x, set_x, looping, of_a_call, of_a_block, times, of_a_method, of_an_initialize, of_a_super, of_a_channel, sends_one, receiving_choice, of_a_spawn, spawning_in, waiting}
use Rattle.cr_meaning.specs.Examples.{fiber, plain}

-- what became of a fiber
abbrev pub fiber_in : ℕ → Option State → Option Status
fiber_in i None = None
fiber_in i (Some s) = Some (status_at s i)

abbrev pub main_in : Option State → Option Status
main_in o = fiber_in 0 o

-- The program is done by so many reductions, neither earlier nor later.
abbrev pub Takes : World → ℕ → Type 0
Takes P n = main_in (run P (plain 0 n ∷ [])) ≡ Some Done

-- the last of so many reductions of main takes this clause, or none
abbrev pub taking : ℕ → Option ℕ → Entry
taking n clause = Steps (fiber 0) n clause None None

-- ---- values, control, loops

pub record Counts : Type 0 where
  -- nothing at all, where the statements are a value
  pub value : main_in (run (alone [] (leaf (f.Int32 (pos 1)))) []) ≡ Some Done
  -- x = 1; x: the assignment, the sequence, the local
  pub assignment : Takes (alone (slot 0 false ∷ []) (and_then (set_x (leaf (f.Int32 (pos 1)))) (leaf x))) 3
  -- if true; 1; else; 2; end
  pub condition : Takes (alone [] (of f.If (leaf f.True ⊕ (leaf (f.Int32 (pos 1)) ⊕ leaf (f.Int32 (pos 2)))))) 1
  -- nil && 1, nil || 1, !nil
  pub both : Takes (alone [] (of f.And (leaf f.Nil ⊕ leaf (f.Int32 (pos 1))))) 1
  pub either : Takes (alone [] (of f.Or (leaf f.Nil ⊕ leaf (f.Int32 (pos 1))))) 1
  pub negation : Takes (alone [] (of f.Not (leaf f.Nil))) 1
  -- while false; nil; end: to enter, the condition's outcome, to leave
  pub no_turn : Takes (alone [] (looping (leaf f.False) (leaf f.Nil))) 3
  -- while true; break; end
  pub broken : Takes (alone [] (looping (leaf f.True) (leaf f.Break))) 3
  -- x = true; while x; x = nil; end: a full turn takes the local, the outcome, the body, the sequence and the fresh turn
  pub one_turn : Takes (alone (slot 0 false ∷ []) (and_then (set_x (leaf f.True)) (looping (leaf x) (set_x (leaf f.Nil))))) 11
  -- x = true; while x; x = nil; next; end: `next` takes the place of the fresh turn
  pub next_turn : Takes (alone (slot 0 false ∷ []) (and_then (set_x (leaf f.True)) (looping (leaf x) (and_then (set_x (leaf f.Nil)) (of f.Next (leaf f.Nil)))))) 11
  -- while true; end: three a turn
  pub endless : run (alone [] (looping (leaf f.True) (leaf f.Nil))) (plain 0 4 ∷ []) ≡ run (alone [] (looping (leaf f.True) (leaf f.Nil))) (plain 0 1 ∷ [])
  pub endless_goes : main_in (run (alone [] (looping (leaf f.True) (leaf f.Nil))) (plain 0 1 ∷ [])) ≡ Some Current
  -- 1.is_a?(..), puts 1, Fiber.yield, and raise "", which is the last reduction
  pub class_test : Takes (alone [] (of f.IsA (leaf (f.Int32 (pos 1)) ⊕ leaf (f.Atom (named 0))))) 1
  pub printed : Takes (alone [] (of f.Puts (leaf (f.Int32 (pos 1))))) 1
  pub paused : Takes (alone [] (leaf f.Pause)) 1
  pub raised : main_in (run (alone [] (of f.Raise (leaf (f.Text (text 0))))) (plain 0 1 ∷ [])) ≡ Some Raised
  -- [1, 2], {1 => 2}
  pub array : Takes (alone [] (of (f.Array false) (leaf (f.Int32 (pos 1)) ⊕ leaf (f.Int32 (pos 2))))) 1
  pub hash : Takes (alone [] (of (f.Hash false) (leaf (f.Int32 (pos 1)) ⊕ leaf (f.Int32 (pos 2))))) 1

-- ---- calls

pub record CallCounts : Type 0 where
  -- 1 + 2
  pub built_in : Takes (calling (Builtin (operation.Scalar (scalar.Int32 (number.Reckon reckoning.Add)))) (call 0 (leaf (f.Int32 (pos 1)) ⊕ leaf (f.Int32 (pos 2))))) 1
  -- a call of a method: to enter and for its end, or its `return`
  pub called : Takes (of_a_call (leaf f.Nil)) 2
  pub returned : Takes (of_a_call (of f.Return (leaf f.Nil))) 2
  -- n.times do |i| end: 11, and 13 a turn
  pub not_once : Takes (times 0) 11
  pub twice : Takes (times 2) 37
  -- a call whose method yields to a block: as a call, to enter the block and for its end, or its `next`
  pub yielded : Takes (of_a_block (leaf f.Yield) (leaf f.Nil)) 4
  pub yielded_next : Takes (of_a_block (leaf f.Yield) (of f.Next (leaf (f.Int32 (pos 1))))) 4
  -- A.new.m, where `new` finds no `initialize`: 1, the call, and what m does: nothing, `self`, `@x`
  pub method : Takes (of_a_method (leaf f.Nil)) 3
  pub receiver : Takes (of_a_method (leaf f.KeywordSelf)) 4
  pub field : Takes (of_a_method (leaf (f.Field (named 5)))) 4
  -- A.new, where it finds one: to enter and for its end, and what it does: nothing, `@x = 1`, `super()`, which gives nil, `return`
  pub initialized : Takes (of_an_initialize (leaf f.Nil)) 2
  pub assigned : Takes (of_an_initialize (of (f.SetField (named 5)) (leaf (f.Int32 (pos 1))))) 3
  pub no_further : Takes (of_an_initialize (leaf f.Super)) 3
  pub returned_early : Takes (of_an_initialize (of f.Return (leaf f.Nil))) 2
  -- B.new.m with `super()` in it: as a call
  pub super_called : Takes of_a_super 5
  -- a `super` of another method than an `initialize`, with none further on, is no reduction
  pub no_super : run (of_a_method (leaf f.Super)) (plain 0 3 ∷ []) ≡ None
  pub until_super : main_in (run (of_a_method (leaf f.Super)) (plain 0 2 ∷ [])) ≡ Some Current

-- ---- channels, choices and fibers

pub record FiberCounts : Type 0 where
  -- x = Channel(Int32).new(1); x.send(1): four with the local, and always two for a send
  pub sent : Takes (of_a_channel sends_one) 6
  -- x.send(1); x.receive, or x.receive?
  pub received : Takes (of_a_channel (and_then sends_one (call 1 (leaf x)))) 9
  pub received_or_nil : Takes (of_a_channel (and_then sends_one (call 2 (leaf x)))) 9
  -- x.close; x.receive?
  pub closed : Takes (of_a_channel (and_then (call 3 (leaf x)) (call 2 (leaf x)))) 8
  -- x.send(1); select; when y = x.receive; end: two more for the local, for it alone
  pub taken_as_local : main_in (run (of_a_channel (receiving_choice (and_then (of (f.Set (local 0 1 0)) (leaf f.Received)) (leaf f.Nil)))) (taking 9 (Some 0) ∷ plain 0 2 ∷ [])) ≡ Some Done
  pub taken : main_in (run (of_a_channel (receiving_choice (leaf f.Nil))) (taking 9 (Some 0) ∷ [])) ≡ Some Done
  -- select; when x.send(1); end: no second step
  pub send_clause : main_in (run (of_a_channel (of (f.Select false) (of f.Send (leaf x ⊕ (leaf (f.Int32 (pos 1)) ⊕ leaf f.Nil))))) (taking 5 (Some 0) ∷ [])) ≡ Some Done
  -- select; when x.receive; else; end
  pub otherwise : main_in (run (of_a_channel (of (f.Select true) (of f.Receive (leaf x ⊕ leaf f.Nil) ⊕ leaf f.Nil))) (taking 5 (Some 1) ∷ [])) ≡ Some Done
  -- spawn do end; nil: one for the fiber, and one for the sequence; and the fiber's end of its block
  pub spawned : Takes (of_a_spawn (leaf f.Nil)) 2
  pub block_ended : fiber_in 1 (run (of_a_spawn (and_then (leaf f.Pause) (leaf f.Nil))) (plain 0 3 ∷ Resume (fiber 1) ∷ plain 1 1 ∷ [])) ≡ Some Done
  -- Fiber::ExecutionContext::Concurrent.new("c").spawn do end: one each
  pub spawned_in : Takes spawning_in 2
  -- x = Fiber::ExecutionContext::Isolated.new("i") do end; x.wait: one each, and none while it is blocked
  pub isolated : fiber_in 1 (run waiting (plain 0 4 ∷ Resume (fiber 1) ∷ plain 1 1 ∷ [])) ≡ Some Done
  pub waited : main_in (run waiting (plain 0 4 ∷ Wait (fiber 0) ∷ Resume (fiber 1) ∷ plain 1 1 ∷ Resume (fiber 0) ∷ plain 0 1 ∷ [])) ≡ Some Done
  pub waits : run waiting (plain 0 5 ∷ []) ≡ None

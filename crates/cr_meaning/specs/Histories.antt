-- What is claimed of channels along every legal history.
use Rattle.std.specs.Prelude.{◌≡◌, ◌⊎◌, ◌++◌, ℕ, Bool, true, false, List, length, Option, Some, None, slice_get}
use Rattle.std.specs.List.{list_any}
use Rattle.cr_base.specs.declared.ids.NodeId.{NodeId}
use Rattle.cr_core.specs.declared.form.Form.TheVariants as f
use Rattle.cr_items.specs.Channel.{Channel, Operation, new_channel, run as operated, IsFront, IsLawful}
use Rattle.cr_schedule.specs.declared.entry.Entry.{Entry}
use Rattle.cr_meaning.specs.World.{World}
use Rattle.cr_meaning.specs.Term.{Terms, Node}
use Rattle.cr_meaning.specs.State.{Cell, Fiber, State}
use Rattle.cr_meaning.specs.Redex.{redex}
use Rattle.cr_meaning.specs.Act.{Choice}
use Rattle.cr_meaning.specs.Reduce.{reduce}
use Rattle.cr_meaning.specs.Channels.{channel_in, channel_at, Clause, clauses, is_ready}
use Rattle.cr_meaning.specs.Run.{new_state, run, run_from, after, is_done, status_at, Ending, Ends}

-- What a channel was and is: a channel that was there is what operations make of it, and a new one what they make of a channel without
-- items. None goes away.
abbrev pub Evolves : Option Channel → Option Channel → Type 0
Evolves None None = Unit {0}
Evolves None (Some new) = (capacity : ℕ) × (operations : List Operation) × (new ≡ operated (new_channel capacity) operations)
Evolves (Some old) None = ⊥
Evolves (Some old) (Some new) = (operations : List Operation) × (new ≡ operated old operations)

abbrev pub channel_of : List Cell → ℕ → Option Channel
channel_of cells k = channel_in (slice_get cells k)

-- each channel so
abbrev pub Evolve : List Cell → List Cell → Type 0
Evolve old new = (k : ℕ) → Evolves (channel_of old k) (channel_of new k)

-- From a state that a legal history reaches to each that it reaches later, whatever the entries between.
abbrev pub ChannelsEvolve : Type 0
ChannelsEvolve = (P : World) (s s' : State) (entries : List Entry) → run_from P s entries ≡ Some s' → Evolve s.cells s'.cells

-- In each state that a legal history reaches, each channel is lawful: what was sent is what was received, then what stands in the list, then
-- what was withdrawn. So what was received is a front of what was sent.
abbrev pub ChannelsAreLawful : Type 0
ChannelsAreLawful = (P : World) (entries : List Entry) (s : State) (k : ℕ) (c : Channel) → run P entries ≡ Some s → channel_at s k ≡ Some c → IsLawful c × IsFront c.received c.sent

-- ---- endings

-- Once main is done no entry is legal.
abbrev pub NothingAfterTheEnd : Type 0
NothingAfterTheEnd = (P : World) (s : State) (e : Entry) → is_done (status_at s 0) ≡ true → after P e s ≡ None

-- Of the endings one holds at most.
abbrev pub OneEnding : Type 0
OneEnding = (P : World) (budget : Option ℕ) (entries : List Entry) (s : State) (a b : Ending) → Ends P budget entries s a → Ends P budget entries s b → a ≡ b

-- A history that goes on is run from where its beginning led.
abbrev pub HistoriesGoOn : Type 0
HistoriesGoOn = (P : World) (first more : List Entry) (s : State) → run P first ≡ Some s → run P (first ++ more) ≡ run_from P s more

-- ---- choices

-- The choice of fiber i among these clauses took the one that is named: one that is ready, or the `else`, where none is.
pub record TookOne (P : World) (s : State) (i : ℕ) (choice : Choice) (otherwise : Bool) (cs : List Clause) : Type 0 where
  pub number : ℕ
  pub chosen : choice.clause ≡ Some number
  pub taken : ((clause : Clause) × (slice_get cs number ≡ Some clause) × (is_ready P s i clause ≡ true))
      ⊎ ((otherwise ≡ true) × (number ≡ length cs) × (list_any (is_ready P s i) cs ≡ false))

-- Each reduction of a `select` takes one clause that is ready, or its `else`.
abbrev pub SelectsTakeOne : Type 0
SelectsTakeOne = (P : World) (s s' : State) (i : ℕ) (choice : Choice) (fiber : Fiber) (n : NodeId) (otherwise : Bool) (ps : Terms)
    → slice_get s.fibers i ≡ Some fiber → redex fiber.term ≡ Some (Node n (f.Select otherwise) ps) → new_state (reduce P s i choice) ≡ Some s'
    → TookOne P s i choice otherwise (clauses ps)

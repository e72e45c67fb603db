-- One reduction of a fiber: the table of redexes, a line each, and what the state is then.
use Rattle.std.specs.Prelude.{ℕ, zero, suc, ◌==◌, Bool, true, false, not, if◌then◌else◌, List, [], ◌∷◌, ◌++◌, codes, Option, Some, None, length, slice_get, unwrap_or}
use Rattle.cr_base.specs.declared.ids.NameId.{NameId}
use Rattle.cr_base.specs.declared.ids.NodeId.{NodeId}
use Rattle.cr_value.specs.declared.value.Value.{Value}
use Rattle.cr_value.specs.declared.value.Value.TheVariants.{Nil, Flag, Word, Ref}
use Rattle.cr_value.specs.Showing.{shown}
use Rattle.cr_builtins.specs.Raises.{class_name, message, unhandled_line}
use Rattle.cr_core.specs.declared.form.Form.{Form}
use Rattle.cr_core.specs.declared.form.Form.TheVariants as f
use Rattle.cr_meaning.specs.World.{World, Made}
use Rattle.cr_meaning.specs.World as made
use Rattle.cr_meaning.specs.Term.{Term, Terms, Val, Node, Turn, Frame, Body, Sent, none, part}
use Rattle.cr_meaning.specs.State.{Cell, Object, Array, Hash, Instance, Given, Fiber, Ready, Raised, State, set_fiber, set_cell, with_status, status_with}
use Rattle.cr_meaning.specs.Redex.{redex, put, jump, Jump, Outwards, Ends, Barred, ByAgain, ByBreak, ByNext, ByReturn, count, skipped, last_reduced, part_at, value_of}
use Rattle.cr_meaning.specs.Locals.{slot_of, read, written, innermost, left}
use Rattle.cr_meaning.specs.Act.{Act, Becomes, Jumps, Raises, Stuck, Blocked, BadChoice, Choice, Thrown, Language, Exception, gives, or_stuck, without_choice, without_clause}
use Rattle.cr_meaning.specs.Calls.{class_of, receiver_here, called, calls_super, makes_object, makes_cell, yields}
use Rattle.cr_meaning.specs.Fibers.{spawns, spawns_in, landing, makes_concurrent, makes_parallel, makes_isolated}
use Rattle.cr_meaning.specs.Channels.{clauses, selects, makes_channel, was_sent, waits_in, Waits_at, at_receive, at_select, elsewhere}
use Rattle.cr_meaning.specs.Builtins.{built_in, hash_of}

-- ---- the parts of a node

-- the values of the parts from the first of these places until the second
abbrev pub values_among : ℕ → ℕ → Terms → List Value
values_among from until none = []
values_among from zero (part t ts) = []
values_among (suc from) (suc until) (part t ts) = values_among from until ts
values_among zero (suc until) (part t ts) = value_of t ∷ values_among zero until ts

abbrev pub values : Form → Terms → List Value
values form ps = values_among (skipped form) (last_reduced form (count ps)) ps

abbrev pub number_of : Term → List NodeId → List NodeId
number_of (Node n form ps) ns = n ∷ ns
number_of other ns = ns

-- the rows of those parts that are nodes
abbrev pub numbers : Terms → List NodeId
numbers none = []
numbers (part t ts) = number_of t (numbers ts)

abbrev pub first_of : List NodeId → Option NodeId
first_of [] = None
first_of (n ∷ ns) = Some n

abbrev pub last_of : NodeId → List NodeId → NodeId
last_of n [] = n
last_of n (m ∷ ns) = last_of m ns

-- the row of the last part that is a node: that of the block, where there is one
abbrev pub last_number : List NodeId → Option NodeId
last_number [] = None
last_number (n ∷ ns) = Some (last_of n ns)

-- the block of a call, written where the fiber stands
abbrev pub given_here : Fiber → Option NodeId → Option Given
given_here fiber None = None
given_here fiber (Some n) = Some (record { block = n; home = innermost fiber })

abbrev pub block_of : Fiber → Bool → Terms → Option Given
block_of fiber false ps = None
block_of fiber true ps = given_here fiber (last_number (numbers ps))

-- ---- conditions

abbrev pub is_truthy : Value → Bool
is_truthy Nil = false
is_truthy (Flag b) = b
is_truthy v = true

-- ---- fields

abbrev pub field_in : NameId → List (NameId × Value) → Value
field_in name [] = Nil
field_in name (entry ∷ entries) = if entry.0.0 == name.0 then entry.1 else field_in name entries

abbrev pub set_field : NameId → Value → List (NameId × Value) → List (NameId × Value)
set_field name v [] = (name, v) ∷ []
set_field name v (entry ∷ entries) = if entry.0.0 == name.0 then (name, v) ∷ entries else entry ∷ set_field name v entries

abbrev pub object_in : Option Cell → Option Instance
object_in (Some (Object o)) = Some o
object_in other = None

abbrev pub reads_field : State → NameId → Option Value → Act
reads_field s name (Some (Ref r)) = or_stuck (λ (o : Instance). gives s (field_in name o.fields)) (object_in (slice_get s.cells r.cell))
reads_field s name other = Stuck

abbrev pub sets_field : State → NameId → Value → Option Value → Act
sets_field s name v (Some (Ref r)) =
    or_stuck (λ (o : Instance). gives (set_cell s r.cell (Object (record o { fields = set_field name v o.fields }))) v) (object_in (slice_get s.cells r.cell))
sets_field s name v other = Stuck

-- ---- output

-- a text and a newline, unless it ends with one
abbrev pub ended_line : List ℕ → Bool → List ℕ
ended_line text true = text
ended_line text false = text ++ 10 ∷ []

abbrev pub ends_line : List ℕ → Bool
ends_line [] = false
ends_line (c ∷ []) = c == 10
ends_line (c ∷ d ∷ cs) = ends_line (d ∷ cs)

abbrev pub puts_text : State → List ℕ → Act
puts_text s text = gives (record s { output = s.output ++ ended_line text (ends_line text) }) Nil

abbrev pub raises_value : Value → Act
raises_value (Word text) = Raises (Exception text)
raises_value v = Stuck

-- ---- calls and what is made

abbrev pub calls_with : World → State → ℕ → Fiber → Choice → NameId → (written : Bool) → List Value → Option Given → Act
calls_with P s i fiber choice name false vs given =
    called P s i fiber name false (receiver_here fiber) vs given (built_in P s i choice (receiver_here fiber) vs)
calls_with P s i fiber choice name true [] given = Stuck
calls_with P s i fiber choice name true (v ∷ vs) given = called P s i fiber name true (Some v) vs given (built_in P s i choice (Some v) vs)

abbrev pub makes : World → State → ℕ → Fiber → List Value → Option NodeId → Option Made → Act
makes P s i fiber vs block (Some (made.Object class)) = makes_object P s i fiber class vs
makes P s i fiber vs block (Some made.Channel) = makes_channel s vs
makes P s i fiber vs block (Some made.Concurrent) = makes_concurrent s vs
makes P s i fiber vs block (Some made.Parallel) = makes_parallel s vs
makes P s i fiber vs (Some n) (Some made.Isolated) = makes_isolated P s fiber n vs
makes P s i fiber vs None (Some made.Isolated) = Stuck
makes P s i fiber vs block None = Stuck

abbrev pub atom_of : World → Option NodeId → Option Made
atom_of P None = None
atom_of P (Some n) = P.makes n

abbrev pub spawned : World → State → Fiber → List Value → Option NodeId → Act
spawned P s fiber vs None = Stuck
spawned P s fiber [] (Some block) = spawns P s fiber (landing s fiber.context) block
spawned P s fiber (v ∷ vs) (Some block) = spawns_in P s fiber block v

abbrev pub hash_made : State → Option (List (Value × Value)) → Act
hash_made s None = Stuck
hash_made s (Some pairs) = makes_cell s (Hash pairs) gives

-- ---- the table

-- What a node comes to whose first parts have these values.
abbrev pub acts : World → State → ℕ → Fiber → Choice → Form → Terms → List Value → Act
acts P s i fiber choice (f.Local x) ps vs = or_stuck (gives s) (read s (slot_of fiber x))
acts P s i fiber choice (f.Set x) ps (v ∷ []) = or_stuck (λ s'. gives s' v) (written s i fiber x v (slot_of fiber x))
acts P s i fiber choice (f.Field name) ps vs = reads_field s name (receiver_here fiber)
acts P s i fiber choice (f.SetField name) ps (v ∷ []) = sets_field s name v (receiver_here fiber)
acts P s i fiber choice f.KeywordSelf ps vs = or_stuck (gives s) (receiver_here fiber)
acts P s i fiber choice f.Seq ps vs = Becomes s (part_at 1 ps)
acts P s i fiber choice f.If ps (v ∷ []) = Becomes s (if is_truthy v then part_at 1 ps else part_at 2 ps)
acts P s i fiber choice f.And ps (v ∷ []) = Becomes s (if is_truthy v then part_at 1 ps else Val v)
acts P s i fiber choice f.Or ps (v ∷ []) = Becomes s (if is_truthy v then Val v else part_at 1 ps)
acts P s i fiber choice f.Not ps (v ∷ []) = gives s (Flag (not (is_truthy v)))
acts P s i fiber choice f.IsA ps (v ∷ []) = gives s (Flag (P.covers (numbers ps) (class_of P s v)))
acts P s i fiber choice f.While ps vs = Becomes s (Turn (part_at 0 ps) (part_at 0 ps))
acts P s i fiber choice f.Again ps vs = Jumps ByAgain
acts P s i fiber choice f.Break ps vs = Jumps ByBreak
acts P s i fiber choice f.Next ps (v ∷ []) = Jumps (ByNext v)
acts P s i fiber choice f.Return ps (v ∷ []) = Jumps (ByReturn v)
acts P s i fiber choice (f.Call name written block) ps vs = calls_with P s i fiber choice name written vs (block_of fiber block ps)
acts P s i fiber choice f.Super ps vs = calls_super P s i fiber vs (built_in P s i choice (receiver_here fiber) vs)
acts P s i fiber choice (f.New question block) ps vs =
    makes P s i fiber vs (if block then last_number (numbers ps) else None) (if question then None else atom_of P (first_of (numbers ps)))
acts P s i fiber choice f.Yield ps vs = yields P s i fiber vs
acts P s i fiber choice (f.Spawn context) ps vs = spawned P s fiber vs (last_number (numbers ps))
acts P s i fiber choice f.Raise ps (v ∷ []) = raises_value v
acts P s i fiber choice f.Puts ps (v ∷ []) = or_stuck (puts_text s) (shown v)
acts P s i fiber choice f.Pause ps vs = gives (set_fiber s i (with_status fiber Ready)) Nil
acts P s i fiber choice (f.Array of) ps vs = makes_cell s (Array vs) gives
acts P s i fiber choice (f.Hash of) ps vs = hash_made s (hash_of vs)
acts P s i fiber choice (f.Select otherwise) ps vs = selects P s i choice otherwise (clauses ps) (part_at (length (clauses ps)) ps)
acts P s i fiber choice other ps vs = Stuck

-- What a redex comes to.
abbrev pub act : World → State → ℕ → Fiber → Choice → Term → Act
act P s i fiber choice (Val v) = Stuck
act P s i fiber choice (Node n form ps) = acts P s i fiber choice form ps (values form ps)
act P s i fiber choice (Turn fresh now) = gives s Nil
act P s i fiber choice (Frame given t) = gives (set_fiber s i (left fiber)) (unwrap_or given (value_of t))
act P s i fiber choice (Body t) = gives (set_fiber s i (left fiber)) (value_of t)
act P s i fiber choice (Sent channel item) = was_sent s channel item

-- A `select` takes a clause and may take a partner, a plain receive may take a partner, and nothing else takes a choice. Where it is stuck
-- or blocked no choice matters.
abbrev pub with_choice : Choice → Waits_at → Act → Act
with_choice choice at Stuck = Stuck
with_choice choice at Blocked = Blocked
with_choice choice elsewhere a = without_choice choice a
with_choice choice (at_receive k) a = without_clause choice.clause a
with_choice choice (at_select cs) a = a

-- ---- the new state

pub data Reduced : Type 0 where
  Went : State → Reduced
  Raised_ : State → Reduced
  Is_stuck : Reduced
  Is_blocked : Reduced
  Is_bad : Reduced

abbrev pub with_whole : Fiber → Term → Fiber
with_whole fiber t = record fiber { term = t; status = status_with t fiber.status }

abbrev pub becomes : State → ℕ → Term → Option Fiber → State
becomes s i t None = s
becomes s i t (Some fiber) = set_fiber s i (with_whole fiber (put t fiber.term))

abbrev pub jumped : State → ℕ → Fiber → Jump → Reduced
jumped s i fiber Outwards = Is_stuck
jumped s i fiber Barred = Is_stuck
jumped s i fiber (Ends leaves t) = Went (set_fiber s i (with_whole (if leaves then left fiber else fiber) t))

abbrev pub line_of : ℕ → Thrown → List ℕ
line_of i (Language raise) = unhandled_line i (class_name raise) (message raise)
line_of i (Exception text) = unhandled_line i (codes "Exception") text

-- A raise ends the fiber, and its line is written.
abbrev pub raised : State → ℕ → Fiber → Thrown → State
raised s i fiber thrown = record (set_fiber s i (with_status fiber Raised)) { errors = s.errors ++ line_of i thrown }

abbrev pub reduced_by : State → ℕ → Fiber → Act → Reduced
reduced_by s i fiber (Becomes s' t) = Went (becomes s' i t (slice_get s'.fibers i))
reduced_by s i fiber (Jumps e) = jumped s i fiber (jump e fiber.term)
reduced_by s i fiber (Raises thrown) = Raised_ (raised s i fiber thrown)
reduced_by s i fiber Stuck = Is_stuck
reduced_by s i fiber Blocked = Is_blocked
reduced_by s i fiber BadChoice = Is_bad

abbrev pub reduced_at : World → State → ℕ → Fiber → Choice → Option Term → Reduced
reduced_at P s i fiber choice None = Is_stuck
reduced_at P s i fiber choice (Some t) = reduced_by s i fiber (with_choice choice (waits_in P s t) (act P s i fiber choice t))

abbrev pub reduced_of : World → State → ℕ → Choice → Option Fiber → Reduced
reduced_of P s i choice None = Is_stuck
reduced_of P s i choice (Some fiber) = reduced_at P s i fiber choice (redex fiber.term)

-- The leftmost innermost redex of fiber i is reduced.
unfoldable pub reduce : World → State → ℕ → Choice → Reduced
reduce P s i choice = reduced_of P s i choice (slice_get s.fibers i)

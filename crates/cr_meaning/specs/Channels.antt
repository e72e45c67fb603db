-- Channels: what is ready, who meets whom, and what a send, a receive, a close and a `select` come to.
use Rattle.std.specs.Prelude.{ℕ, ℤ, pos, negsuc, ◌+◌, ◌==◌, ◌&&◌, ◌||◌, not, nat_le, nat_lt, Bool, true, false, if◌then◌else◌, List, [], ◌∷◌, ◌++◌, Option, Some, None, is_some, length, slice_get}
use Rattle.std.specs.List.{list_any, list_all}
use Rattle.cr_base.specs.declared.ids.FiberId.{FiberId}
use Rattle.cr_value.specs.declared.value.Fate.{Fate}
use Rattle.cr_value.specs.declared.value.Fate.TheVariants.{Waits, Passed, Withdrawn}
use Rattle.cr_value.specs.declared.value.Value.{Value}
use Rattle.cr_value.specs.declared.value.Value.TheVariants.{Nil, Flag, Small, Ref}
use Rattle.cr_items.specs.declared.item.Item.{Item}
use Rattle.cr_items.specs.Channel.{Channel, new_channel, after_append, after_take, after_meeting, after_close, head_value, fate_of}
use Rattle.cr_builtins.specs.declared.raise.Raise.TheVariants.{Argument, Closed}
use Rattle.cr_builtins.specs.declared.operation.Operation.TheVariants as operation
use Rattle.cr_builtins.specs.declared.operation.ChannelOperation.{ChannelOperation}
use Rattle.cr_builtins.specs.declared.operation.ChannelOperation.TheVariants as channel
use Rattle.cr_core.specs.declared.form.Form.{Form}
use Rattle.cr_core.specs.declared.form.Form.TheVariants as f
use Rattle.cr_meaning.specs.World.{World, Target, Builtin}
use Rattle.cr_meaning.specs.Term.{Term, Terms, Val, Node, Sent, none, part}
use Rattle.cr_meaning.specs.State.{Cell, Chan, Fiber, Ready, Waiting, Status, State, set_fiber, set_cell, status_with}
use Rattle.cr_meaning.specs.Redex.{redex, put, part_at, value_of}
use Rattle.cr_meaning.specs.Limits.{most_capacity}
use Rattle.cr_meaning.specs.Act.{Act, Becomes, Raises, Stuck, Blocked, BadChoice, Choice, Language, gives, or_stuck, without_clause}
use Rattle.cr_meaning.specs.Calls.{makes_cell, class_of}

-- ---- the channel of a value

abbrev pub channel_in : Option Cell → Option Channel
channel_in (Some (Chan c)) = Some c
channel_in other = None

abbrev pub cell_of : Value → Option ℕ
cell_of (Ref r) = Some r.cell
cell_of v = None

abbrev pub channel_at : State → ℕ → Option Channel
channel_at s k = channel_in (slice_get s.cells k)

-- ---- clauses

-- a clause of a choice: what it does on which channel, and the term with which the choice goes on
pub data Does : Type 0 where
  Sends : Value → Does
  Receives : (or_nil : Bool) → Does

pub record Clause : Type 0 where
  pub does : Does
  pub on : Value
  pub body : Term

abbrev pub clause_by : Form → Terms → Option Clause
clause_by f.Send ps = Some (record { does = Sends (value_of (part_at 1 ps)); on = value_of (part_at 0 ps); body = part_at 2 ps })
clause_by f.Receive ps = Some (record { does = Receives false; on = value_of (part_at 0 ps); body = part_at 1 ps })
clause_by f.ReceiveOrNil ps = Some (record { does = Receives true; on = value_of (part_at 0 ps); body = part_at 1 ps })
clause_by other ps = None

abbrev pub clause_of : Term → Option Clause
clause_of (Node n form ps) = clause_by form ps
clause_of other = None

abbrev pub and_clause : Option Clause → List Clause → List Clause
and_clause None cs = cs
and_clause (Some c) cs = c ∷ cs

abbrev pub clauses : Terms → List Clause
clauses none = []
clauses (part t ts) = and_clause (clause_of t) (clauses ts)

-- what a choice goes on as: the value that was received stands in place of `Received` in `x = Received` at its begin
abbrev pub received : Value → Term → Term
received v (Node n f.Seq (part (Node m (f.Set x) (part (Node k f.Received none) none)) ts)) = Node n f.Seq (part (Node m (f.Set x) (part (Val v) none)) ts)
received v t = t

-- ---- who can be met

-- what a fiber waits at
pub data Waits_at : Type 0 where
  at_receive : ℕ → Waits_at  -- a plain receive on the channel of this cell
  at_select : List Clause → Waits_at
  elsewhere : Waits_at

abbrev pub is_receive : Option Target → Bool
is_receive (Some (Builtin (operation.Channel channel.Receive))) = true
is_receive (Some (Builtin (operation.Channel channel.ReceiveOrNil))) = true
is_receive other = false

abbrev pub receive_on : Bool → Option ℕ → Waits_at
receive_on true (Some k) = at_receive k
receive_on other k = elsewhere

abbrev pub waits_in : World → State → Term → Waits_at
waits_in P s (Node n (f.Select otherwise) ps) = at_select (clauses ps)
waits_in P s (Node n (f.Call name true false) (part (Val v) none)) = receive_on (is_receive (P.choose (class_of P s v) name [] false false)) (cell_of v)
waits_in P s other = elsewhere

abbrev pub waits_by : World → State → Status → Option Term → Waits_at
waits_by P s Waiting (Some t) = waits_in P s t
waits_by P s other t = elsewhere

abbrev pub waits_at : World → State → Fiber → Waits_at
waits_at P s fiber = waits_by P s fiber.status (redex fiber.term)

abbrev pub is_cell : ℕ → Option ℕ → Bool
is_cell k None = false
is_cell k (Some other) = k == other

-- A way to complete an operation by a meeting: the fiber that is met, and the clause of its choice.
pub record Partner : Type 0 where
  pub fiber : ℕ
  pub clause : Option ℕ

-- which operation is to be met
pub data Wanted : Type 0 where
  a_send : Wanted
  a_receive : Wanted

abbrev pub is_wanted : Wanted → Does → Bool
is_wanted a_send (Sends v) = true
is_wanted a_send (Receives or_nil) = false
is_wanted a_receive (Sends v) = false
is_wanted a_receive (Receives or_nil) = true

-- the clauses, from this number on, that do what is wanted on the channel of cell k
abbrev pub meeting_clauses : Wanted → ℕ → ℕ → ℕ → List Clause → List Partner
meeting_clauses wanted k p n [] = []
meeting_clauses wanted k p n (c ∷ cs) =
    if is_wanted wanted c.does && is_cell k (cell_of c.on)
    then record { fiber = p; clause = Some n } ∷ meeting_clauses wanted k p (n + 1) cs
    else meeting_clauses wanted k p (n + 1) cs

-- A plain receive can be met by a send clause, and a plain send by nobody: its item stands in the list.
abbrev pub meetings_by : Wanted → ℕ → ℕ → Waits_at → List Partner
meetings_by a_receive k p (at_receive j) = if k == j then record { fiber = p; clause = None } ∷ [] else []
meetings_by a_send k p (at_receive j) = []
meetings_by wanted k p (at_select cs) = meeting_clauses wanted k p 0 cs
meetings_by wanted k p elsewhere = []

abbrev pub meetings_from : World → State → Wanted → ℕ → ℕ → ℕ → List Fiber → List Partner
meetings_from P s wanted k i p [] = []
meetings_from P s wanted k i p (fiber ∷ fibers) =
    (if i == p then [] else meetings_by wanted k p (waits_at P s fiber)) ++ meetings_from P s wanted k i (p + 1) fibers

-- Those whom fiber i can meet on the channel of cell k: waiting fibers, another than itself.
abbrev pub meetings : World → State → Wanted → ℕ → ℕ → List Partner
meetings P s wanted k i = meetings_from P s wanted k i 0 s.fibers

abbrev pub same_number : Option ℕ → Option ℕ → Bool
same_number None None = true
same_number (Some m) (Some n) = m == n
same_number other another = false

abbrev pub is_partner : Choice → Partner → Bool
is_partner choice p = same_number choice.partner (Some p.fiber) && same_number choice.partner_clause p.clause

-- ---- a meeting

-- The partner's redex becomes this term. It is ready then, and done where that is a value.
abbrev pub resumed_with : Fiber → Term → Fiber
resumed_with fiber whole = record fiber { term = whole; status = status_with whole Ready }

abbrev pub met_fiber : State → ℕ → Term → Option Fiber → State
met_fiber s p t None = s
met_fiber s p t (Some fiber) = set_fiber s p (resumed_with fiber (put t fiber.term))

abbrev pub fiber_at : State → Option ℕ → Option Fiber
fiber_at s None = None
fiber_at s (Some p) = slice_get s.fibers p

abbrev pub meets : State → Option ℕ → Term → State
meets s None t = s
meets s (Some p) t = met_fiber s p t (slice_get s.fibers p)

-- the clause by which the partner is met; none where it waits at a plain receive
abbrev pub clause_in : Waits_at → Option ℕ → Option Clause
clause_in (at_select cs) (Some n) = slice_get cs n
clause_in other n = None

abbrev pub clause_of_fiber : World → State → Option ℕ → Option Fiber → Option Clause
clause_of_fiber P s n None = None
clause_of_fiber P s n (Some fiber) = clause_in (waits_at P s fiber) n

abbrev pub partner_clause : World → State → Choice → Option Clause
partner_clause P s choice = clause_of_fiber P s choice.partner_clause (fiber_at s choice.partner)

abbrev pub fiber_id : Option ℕ → FiberId
fiber_id None = record { 0 = 0 }
fiber_id (Some i) = record { 0 = i }

-- The partner's send clause gives its value, and its choice goes on.
abbrev pub meets_sender : State → ℕ → Channel → Choice → (State → Value → Act) → Does → Term → Act
meets_sender s k c choice go (Sends v) body = go (meets (set_cell s k (Chan (after_meeting c (fiber_id choice.partner) v))) choice.partner body) v
meets_sender s k c choice go (Receives or_nil) body = BadChoice

abbrev pub meets_sender_by : State → ℕ → Channel → Choice → (State → Value → Act) → Option Clause → Act
meets_sender_by s k c choice go None = BadChoice
meets_sender_by s k c choice go (Some clause) = meets_sender s k c choice go clause.does clause.body

-- The partner gets the value: a plain receive becomes it, and a choice goes on with it.
abbrev pub after_receiving : Value → Option Clause → Term
after_receiving v None = Val v
after_receiving v (Some clause) = received v clause.body

-- ---- one choice of a partner

abbrev pub has_some : List Partner → Bool
has_some [] = false
has_some (p ∷ ps) = true

-- those who can be met, where the channel settles nothing
abbrev pub partners : World → State → Wanted → ℕ → ℕ → Channel → List Partner
partners P s wanted k i c = if c.capacity == 0 then meetings P s wanted k i else []

abbrev pub without_partner : Choice → Act → Act
without_partner choice a = without_clause choice.partner (without_clause choice.partner_clause a)

-- Where nobody can be met it is blocked, and else the choice is one of those who can.
abbrev pub meeting_among : Choice → Act → List Partner → Act
meeting_among choice a [] = Blocked
meeting_among choice a (p ∷ ps) = if list_any (is_partner choice) (p ∷ ps) then a else BadChoice

-- ---- receiving

abbrev pub finds_closed : State → (or_nil : Bool) → (State → Value → Act) → Act
finds_closed s true go = go s Nil
finds_closed s false go = Raises (Language Closed)

abbrev pub receives_when : World → State → ℕ → ℕ → Channel → (or_nil : Bool) → Choice → (State → Value → Act) → (closed : Bool) → Option Value → Act
receives_when P s i k c or_nil choice go closed (Some v) = without_partner choice (go (set_cell s k (Chan (after_take c))) v)
receives_when P s i k c or_nil choice go true None = without_partner choice (finds_closed s or_nil go)
receives_when P s i k c or_nil choice go false None =
    meeting_among choice (meets_sender_by s k c choice go (partner_clause P s choice)) (partners P s a_send k i c)

-- Fiber i receives from the channel of cell k, and goes on with the value: the head of the list; on a closed empty channel a raise or nil;
-- or what a partner sends.
abbrev pub receives : World → State → ℕ → ℕ → Channel → (or_nil : Bool) → Choice → (State → Value → Act) → Act
receives P s i k c or_nil choice go = receives_when P s i k c or_nil choice go c.closed (head_value c.items)

-- ---- sending

abbrev pub appended : State → ℕ → Channel → ℕ → Value → State
appended s k c i v = set_cell s k (Chan (after_append c (record { 0 = i }) v))

-- A plain send puts its item into the list.
abbrev pub sends : State → ℕ → ℕ → Channel → Value → (closed : Bool) → Act
sends s i k c v true = Raises (Language Closed)
sends s i k c v false = Becomes (appended s k c i v) (Sent k (length c.sent))

-- A send clause of fiber i is taken where there is room, and is met where nothing is settled and the list is empty.
abbrev pub meets_receiver : World → State → ℕ → ℕ → Channel → Value → Choice → Term → List Item → Act
meets_receiver P s i k c v choice body [] =
    meeting_among choice
    (Becomes (meets (set_cell s k (Chan (after_meeting c (record { 0 = i }) v))) choice.partner (after_receiving v (partner_clause P s choice))) body)
    (partners P s a_receive k i c)
meets_receiver P s i k c v choice body (item ∷ items) = Blocked

abbrev pub sends_clause : World → State → ℕ → ℕ → Channel → Value → Choice → Term → (closed : Bool) → Act
sends_clause P s i k c v choice body true = without_partner choice (Raises (Language Closed))
sends_clause P s i k c v choice body false =
    if nat_lt (length c.items) c.capacity
    then without_partner choice (Becomes (appended s k c i v) body)
    else meets_receiver P s i k c v choice body c.items

-- What became of an item that was sent.
abbrev pub sent_by : State → ℕ → Fate → Act
sent_by s k Passed = gives s (Ref (record { cell = k; atom = 0 }))
sent_by s k Withdrawn = Raises (Language Closed)
sent_by s k Waits = Blocked

abbrev pub was_sent : State → ℕ → ℕ → Act
was_sent s k item = or_stuck (λ c. sent_by s k (fate_of c item)) (channel_at s k)

-- ---- choices

abbrev pub is_empty : List Item → Bool
is_empty [] = true
is_empty (item ∷ items) = false

abbrev pub is_ready_on : World → State → ℕ → Does → ℕ → Channel → Bool
is_ready_on P s i (Receives or_nil) k c = not (is_empty c.items) || (c.closed || has_some (partners P s a_send k i c))
is_ready_on P s i (Sends v) k c =
    c.closed || (nat_lt (length c.items) c.capacity || (is_empty c.items && has_some (partners P s a_receive k i c)))

abbrev pub is_ready_by : World → State → ℕ → Does → ℕ → Option Channel → Bool
is_ready_by P s i does k None = false
is_ready_by P s i does k (Some c) = is_ready_on P s i does k c

abbrev pub is_ready_at : World → State → ℕ → Does → Option ℕ → Bool
is_ready_at P s i does None = false
is_ready_at P s i does (Some k) = is_ready_by P s i does k (channel_at s k)

-- whether a clause of fiber i's choice is ready
abbrev pub is_ready : World → State → ℕ → Clause → Bool
is_ready P s i clause = is_ready_at P s i clause.does (cell_of clause.on)

abbrev pub has_channel : State → Option ℕ → Bool
has_channel s None = false
has_channel s (Some k) = is_some (channel_at s k)

abbrev pub takes_on : World → State → ℕ → Choice → Does → Term → ℕ → Channel → Act
takes_on P s i choice (Receives or_nil) body k c = receives P s i k c or_nil choice (λ s' v. Becomes s' (received v body))
takes_on P s i choice (Sends v) body k c = sends_clause P s i k c v choice body c.closed

abbrev pub takes_at : World → State → ℕ → Choice → Clause → Option ℕ → Act
takes_at P s i choice clause None = Stuck
takes_at P s i choice clause (Some k) = or_stuck (takes_on P s i choice clause.does clause.body k) (channel_at s k)

abbrev pub takes : World → State → ℕ → Choice → Clause → Act
takes P s i choice clause = if is_ready P s i clause then takes_at P s i choice clause (cell_of clause.on) else BadChoice

-- the `else` has the number behind the last clause, and is taken where no clause is ready
abbrev pub takes_otherwise : State → Choice → (otherwise : Bool) → (ready : Bool) → Term → Act
takes_otherwise s choice true false t = without_partner choice (Becomes s t)
takes_otherwise s choice otherwise ready t = BadChoice

abbrev pub chooses_by : World → State → ℕ → Choice → (otherwise ready : Bool) → (number last : ℕ) → Term → Option Clause → Act
chooses_by P s i choice otherwise ready number last t (Some clause) = takes P s i choice clause
chooses_by P s i choice otherwise ready number last t None = if number == last then takes_otherwise s choice otherwise ready t else BadChoice

abbrev pub chooses : World → State → ℕ → Choice → (otherwise ready : Bool) → List Clause → Term → Option ℕ → Act
chooses P s i choice otherwise ready cs t None = BadChoice
chooses P s i choice otherwise ready cs t (Some n) = chooses_by P s i choice otherwise ready n (length cs) t (slice_get cs n)

-- The clauses with the channels on which they are; where one is no channel, it is stuck. Where none is ready and there is no `else`, it is
-- blocked.
abbrev pub selects_among : World → State → ℕ → Choice → (otherwise ready : Bool) → List Clause → Term → Act
selects_among P s i choice otherwise ready cs t = if otherwise || ready then chooses P s i choice otherwise ready cs t choice.clause else Blocked

abbrev pub selects : World → State → ℕ → Choice → (otherwise : Bool) → List Clause → Term → Act
selects P s i choice otherwise cs t =
    if list_all (λ (c : Clause). has_channel s (cell_of c.on)) cs
    then selects_among P s i choice otherwise (list_any (is_ready P s i) cs) cs t
    else Stuck

-- ---- the methods of channels

abbrev pub operates_on : World → State → ℕ → Choice → ChannelOperation → List Value → ℕ → Channel → Act
operates_on P s i choice channel.Send (v ∷ []) k c = sends s i k c v c.closed
operates_on P s i choice channel.Receive [] k c = receives P s i k c false choice gives
operates_on P s i choice channel.ReceiveOrNil [] k c = receives P s i k c true choice gives
operates_on P s i choice channel.Close [] k c = gives (set_cell s k (Chan (after_close c))) Nil
operates_on P s i choice channel.IsClosed [] k c = gives s (Flag c.closed)
operates_on P s i choice other vs k c = Stuck

abbrev pub operates_at : World → State → ℕ → Choice → ChannelOperation → List Value → Option ℕ → Act
operates_at P s i choice o vs None = Stuck
operates_at P s i choice o vs (Some k) = or_stuck (operates_on P s i choice o vs k) (channel_at s k)

abbrev pub operates : World → State → ℕ → Choice → ChannelOperation → Option Value → List Value → Act
operates P s i choice o None vs = Stuck
operates P s i choice o (Some v) vs = operates_at P s i choice o vs (cell_of v)

-- ---- a new channel

abbrev pub is_capacity : ℤ → Bool
is_capacity (pos n) = nat_le n most_capacity
is_capacity (negsuc n) = false

abbrev pub capacity_of : ℤ → ℕ
capacity_of (pos n) = n
capacity_of (negsuc n) = 0

abbrev pub makes_channel : State → List Value → Act
makes_channel s [] = makes_cell s (Chan (new_channel 0)) gives
makes_channel s (Small n ∷ []) = if is_capacity n then makes_cell s (Chan (new_channel (capacity_of n))) gives else Raises (Language Argument)
makes_channel s vs = Stuck

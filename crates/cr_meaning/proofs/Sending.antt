-- What sends, receives and choices do to channels.
use Rattle.std.proofs.Common.{◌≡◌, ℕ, Bool, true, false, ◌==◌, ◌||◌, List, [], ◌∷◌, refl, sym, ap, subst, ◌∙◌, Option, Some, None, length, slice_get, nat_lt}
use Rattle.std.specs.List.{list_any, list_all}
use Rattle.std.proofs.lemmas.Option.{none-some}
use Rattle.cr_value.specs.declared.value.Fate.{Fate}
use Rattle.cr_value.specs.declared.value.Fate.TheVariants.{Waits, Passed, Withdrawn}
use Rattle.cr_value.specs.declared.value.Value.{Value}
use Rattle.cr_value.specs.declared.value.Value.TheVariants as value
use Rattle.cr_items.specs.declared.item.Item.{Item}
use Rattle.cr_items.specs.Channel.{Channel, Append, Take, Meet, Close, new_channel, after, after_append, after_take, after_meeting, after_close, after_sending, after_passing, head_value, fate_of}
use Rattle.cr_builtins.specs.declared.operation.ChannelOperation.{ChannelOperation}
use Rattle.cr_builtins.specs.declared.operation.ChannelOperation.TheVariants as channel
use Rattle.cr_builtins.specs.declared.raise.Raise.TheVariants.{Argument, Closed}
use Rattle.cr_meaning.specs.World.{World}
use Rattle.cr_meaning.specs.Term.{Term}
use Rattle.cr_meaning.specs.State.{Cell, Chan, Fiber, State, set_cell}
use Rattle.cr_meaning.specs.Act.{Act, Becomes, Raises, Language, Stuck, Blocked, BadChoice, Choice, gives, without_clause}
use Rattle.cr_meaning.specs.Channels as c
use Rattle.cr_meaning.specs.Channels.{Does, Sends, Receives, Clause, Partner}
use Rattle.cr_meaning.specs.Calls.{makes_cell}
use Rattle.cr_meaning.specs.Histories.{Evolve, channel_of}
use Rattle.cr_meaning.proofs.Evolving.{unchanged, operates_once}
use Rattle.cr_meaning.proofs.Kept.{Keeps, if_kept, or_stuck_kept, clause_kept, makes_cell_kept}

partner_kept : (cells : List Cell) (choice : Choice) (a : Act) → Keeps cells a → Keeps cells (c.without_partner choice a)
partner_kept cells choice a h = clause_kept cells choice.partner (without_clause choice.partner_clause a) (clause_kept cells choice.partner_clause a h)

among_kept : (cells : List Cell) (choice : Choice) (a : Act) (ps : List Partner) → Keeps cells a → Keeps cells (c.meeting_among choice a ps)
among_kept cells choice a [] h = tt
among_kept cells choice a (p ∷ ps) h = if_kept cells (list_any (c.is_partner choice) (p ∷ ps)) a BadChoice h tt

-- a meeting changes no cell but the channel's
met_cells : (s : State) (p : ℕ) (t : Term) (fiber : Option Fiber) → (c.met_fiber s p t fiber).cells ≡ s.cells
met_cells s p t None = refl
met_cells s p t (Some fiber) = refl

meets_cells : (s : State) (p : Option ℕ) (t : Term) → (c.meets s p t).cells ≡ s.cells
meets_cells s None t = refl
meets_cells s (Some p) t = met_cells s p t (slice_get s.fibers p)

-- ---- the operations

appends : (ch : Channel) (i : ℕ) (v : Value) → ch.closed ≡ false → after_append ch (record { 0 = i }) v ≡ after ch (Append (record { 0 = i }) v)
appends ch i v e = ap (λ b. after_sending b ch (after_append ch (record { 0 = i }) v)) (sym e)

no_items : (items : List Item) → head_value items ≡ None → items ≡ []
no_items [] e = refl
no_items (item ∷ items) e = absurd (none-some item.value (sym e))

meeting_is : (ch : Channel) (from : Option ℕ) (v : Value) → ch.closed ≡ false → ch.items ≡ [] → after_meeting ch (c.fiber_id from) v ≡ after ch (Meet (c.fiber_id from) v)
meeting_is ch from v is_open empty =
    ap (λ items. after_passing items ch (after_meeting ch (c.fiber_id from) v)) (sym empty)
    ∙ ap (λ b. after_sending b ch (after_passing ch.items ch (after_meeting ch (c.fiber_id from) v))) (sym is_open)

-- ---- receiving

meets_sender_kept : (s : State) (k : ℕ) (ch : Channel) (choice : Choice) (go : State → Value → Act) (does : Does) (body : Term) → channel_of s.cells k ≡ Some ch → ch.closed ≡ false → ch.items ≡ []
    → ((s' : State) (v : Value) → Evolve s.cells s'.cells → Keeps s.cells (go s' v)) → Keeps s.cells (c.meets_sender s k ch choice go does body)
meets_sender_kept s k ch choice go (Sends v) body at is_open empty h =
    let there = set_cell s k (Chan (after_meeting ch (c.fiber_id choice.partner) v)) in
    h (c.meets there choice.partner body) v
    (subst (Evolve s.cells) (sym (meets_cells there choice.partner body)) (operates_once s.cells k ch (after_meeting ch (c.fiber_id choice.partner) v) (Meet (c.fiber_id choice.partner) v) at (meeting_is ch choice.partner v is_open empty)))
meets_sender_kept s k ch choice go (Receives or_nil) body at is_open empty h = tt

meets_sender_by_kept : (s : State) (k : ℕ) (ch : Channel) (choice : Choice) (go : State → Value → Act) (clause : Option Clause) → channel_of s.cells k ≡ Some ch → ch.closed ≡ false → ch.items ≡ []
    → ((s' : State) (v : Value) → Evolve s.cells s'.cells → Keeps s.cells (go s' v)) → Keeps s.cells (c.meets_sender_by s k ch choice go clause)
meets_sender_by_kept s k ch choice go None at is_open empty h = tt
meets_sender_by_kept s k ch choice go (Some clause) at is_open empty h = meets_sender_kept s k ch choice go clause.does clause.body at is_open empty h

closed_kept : (s : State) (or_nil : Bool) (go : State → Value → Act) → ((s' : State) (v : Value) → Evolve s.cells s'.cells → Keeps s.cells (go s' v)) → Keeps s.cells (c.finds_closed s or_nil go)
closed_kept s true go h = h s value.Nil (unchanged s.cells)
closed_kept s false go h = tt

receives_when_kept : (P : World) (s : State) (i k : ℕ) (ch : Channel) (or_nil : Bool) (choice : Choice) (go : State → Value → Act) (closed : Bool) (head : Option Value)
    → channel_of s.cells k ≡ Some ch → ch.closed ≡ closed → head_value ch.items ≡ head
    → ((s' : State) (v : Value) → Evolve s.cells s'.cells → Keeps s.cells (go s' v)) → Keeps s.cells (c.receives_when P s i k ch or_nil choice go closed head)
receives_when_kept P s i k ch or_nil choice go true (Some v) at closed head h =
    partner_kept s.cells choice (go (set_cell s k (Chan (after_take ch))) v) (h (set_cell s k (Chan (after_take ch))) v (operates_once s.cells k ch (after_take ch) Take at refl))
receives_when_kept P s i k ch or_nil choice go false (Some v) at closed head h =
    partner_kept s.cells choice (go (set_cell s k (Chan (after_take ch))) v) (h (set_cell s k (Chan (after_take ch))) v (operates_once s.cells k ch (after_take ch) Take at refl))
receives_when_kept P s i k ch or_nil choice go true None at closed head h = partner_kept s.cells choice (c.finds_closed s or_nil go) (closed_kept s or_nil go h)
receives_when_kept P s i k ch or_nil choice go false None at closed head h =
    among_kept s.cells choice (c.meets_sender_by s k ch choice go (c.partner_clause P s choice)) (c.partners P s c.a_send k i ch)
    (meets_sender_by_kept s k ch choice go (c.partner_clause P s choice) at closed (no_items ch.items head) h)

pub receives_kept : (P : World) (s : State) (i k : ℕ) (ch : Channel) (or_nil : Bool) (choice : Choice) (go : State → Value → Act) → channel_of s.cells k ≡ Some ch
    → ((s' : State) (v : Value) → Evolve s.cells s'.cells → Keeps s.cells (go s' v)) → Keeps s.cells (c.receives P s i k ch or_nil choice go)
receives_kept P s i k ch or_nil choice go at h = receives_when_kept P s i k ch or_nil choice go ch.closed (head_value ch.items) at refl refl h

-- ---- sending

sends_kept : (s : State) (i k : ℕ) (ch : Channel) (v : Value) (closed : Bool) → channel_of s.cells k ≡ Some ch → ch.closed ≡ closed → Keeps s.cells (c.sends s i k ch v closed)
sends_kept s i k ch v true at e = tt
sends_kept s i k ch v false at e = operates_once s.cells k ch (after_append ch (record { 0 = i }) v) (Append (record { 0 = i }) v) at (appends ch i v e)

meets_receiver_kept : (P : World) (s : State) (i k : ℕ) (ch : Channel) (v : Value) (choice : Choice) (body : Term) (items : List Item) → channel_of s.cells k ≡ Some ch → ch.closed ≡ false → ch.items ≡ items
    → Keeps s.cells (c.meets_receiver P s i k ch v choice body items)
meets_receiver_kept P s i k ch v choice body [] at is_open empty =
    let there = set_cell s k (Chan (after_meeting ch (record { 0 = i }) v)) in
    let met = c.after_receiving v (c.partner_clause P s choice) in
    among_kept s.cells choice (Becomes (c.meets there choice.partner met) body) (c.partners P s c.a_receive k i ch)
    (subst (Evolve s.cells) (sym (meets_cells there choice.partner met))
    (operates_once s.cells k ch (after_meeting ch (record { 0 = i }) v) (Meet (record { 0 = i }) v) at (meeting_is ch (Some i) v is_open empty)))
meets_receiver_kept P s i k ch v choice body (item ∷ items) at is_open some = tt

sends_clause_kept : (P : World) (s : State) (i k : ℕ) (ch : Channel) (v : Value) (choice : Choice) (body : Term) (closed : Bool) → channel_of s.cells k ≡ Some ch → ch.closed ≡ closed
    → Keeps s.cells (c.sends_clause P s i k ch v choice body closed)
sends_clause_kept P s i k ch v choice body true at e = partner_kept s.cells choice (Raises (Language Closed)) tt
sends_clause_kept P s i k ch v choice body false at e =
    if_kept s.cells (nat_lt (length ch.items) ch.capacity) (c.without_partner choice (Becomes (c.appended s k ch i v) body)) (c.meets_receiver P s i k ch v choice body ch.items)
    (partner_kept s.cells choice (Becomes (c.appended s k ch i v) body) (operates_once s.cells k ch (after_append ch (record { 0 = i }) v) (Append (record { 0 = i }) v) at (appends ch i v e)))
    (meets_receiver_kept P s i k ch v choice body ch.items at e refl)

sent_by_kept : (s : State) (k : ℕ) (fate : Fate) → Keeps s.cells (c.sent_by s k fate)
sent_by_kept s k Passed = unchanged s.cells
sent_by_kept s k Withdrawn = tt
sent_by_kept s k Waits = tt

pub sent_kept : (s : State) (k item : ℕ) → Keeps s.cells (c.was_sent s k item)
sent_kept s k item = or_stuck_kept s.cells (λ ch. c.sent_by s k (fate_of ch item)) (c.channel_at s k) (λ ch e. sent_by_kept s k (fate_of ch item))

-- ---- choices

takes_on_kept : (P : World) (s : State) (i : ℕ) (choice : Choice) (does : Does) (body : Term) (k : ℕ) (ch : Channel) → channel_of s.cells k ≡ Some ch → Keeps s.cells (c.takes_on P s i choice does body k ch)
takes_on_kept P s i choice (Receives or_nil) body k ch at = receives_kept P s i k ch or_nil choice (λ s' v. Becomes s' (c.received v body)) at (λ s' v h. h)
takes_on_kept P s i choice (Sends v) body k ch at = sends_clause_kept P s i k ch v choice body ch.closed at refl

takes_at_kept : (P : World) (s : State) (i : ℕ) (choice : Choice) (clause : Clause) (k : Option ℕ) → Keeps s.cells (c.takes_at P s i choice clause k)
takes_at_kept P s i choice clause None = tt
takes_at_kept P s i choice clause (Some k) = or_stuck_kept s.cells (c.takes_on P s i choice clause.does clause.body k) (c.channel_at s k) (λ ch at. takes_on_kept P s i choice clause.does clause.body k ch at)

otherwise_kept : (s : State) (choice : Choice) (otherwise ready : Bool) (t : Term) → Keeps s.cells (c.takes_otherwise s choice otherwise ready t)
otherwise_kept s choice true false t = partner_kept s.cells choice (Becomes s t) (unchanged s.cells)
otherwise_kept s choice true true t = tt
otherwise_kept s choice false ready t = tt

chooses_by_kept : (P : World) (s : State) (i : ℕ) (choice : Choice) (otherwise ready : Bool) (number last : ℕ) (t : Term) (clause : Option Clause) → Keeps s.cells (c.chooses_by P s i choice otherwise ready number last t clause)
chooses_by_kept P s i choice otherwise ready number last t (Some clause) =
    if_kept s.cells (c.is_ready P s i clause) (c.takes_at P s i choice clause (c.cell_of clause.on)) BadChoice (takes_at_kept P s i choice clause (c.cell_of clause.on)) tt
chooses_by_kept P s i choice otherwise ready number last t None =
    if_kept s.cells (number == last) (c.takes_otherwise s choice otherwise ready t) BadChoice (otherwise_kept s choice otherwise ready t) tt

chooses_kept : (P : World) (s : State) (i : ℕ) (choice : Choice) (otherwise ready : Bool) (cs : List Clause) (t : Term) (n : Option ℕ) → Keeps s.cells (c.chooses P s i choice otherwise ready cs t n)
chooses_kept P s i choice otherwise ready cs t None = tt
chooses_kept P s i choice otherwise ready cs t (Some n) = chooses_by_kept P s i choice otherwise ready n (length cs) t (slice_get cs n)

among_clauses_kept : (P : World) (s : State) (i : ℕ) (choice : Choice) (otherwise ready : Bool) (cs : List Clause) (t : Term) → Keeps s.cells (c.selects_among P s i choice otherwise ready cs t)
among_clauses_kept P s i choice otherwise ready cs t =
    if_kept s.cells (otherwise || ready) (c.chooses P s i choice otherwise ready cs t choice.clause) Blocked (chooses_kept P s i choice otherwise ready cs t choice.clause) tt

pub selects_kept : (P : World) (s : State) (i : ℕ) (choice : Choice) (otherwise : Bool) (cs : List Clause) (t : Term) → Keeps s.cells (c.selects P s i choice otherwise cs t)
selects_kept P s i choice otherwise cs t =
    if_kept s.cells (list_all (λ (clause : Clause). c.has_channel s (c.cell_of clause.on)) cs) (c.selects_among P s i choice otherwise (list_any (c.is_ready P s i) cs) cs t) Stuck
    (among_clauses_kept P s i choice otherwise (list_any (c.is_ready P s i) cs) cs t) tt

-- ---- the methods of channels

operates_on_kept : (P : World) (s : State) (i : ℕ) (choice : Choice) (o : ChannelOperation) (vs : List Value) (k : ℕ) (ch : Channel) → channel_of s.cells k ≡ Some ch → Keeps s.cells (c.operates_on P s i choice o vs k ch)
operates_on_kept P s i choice channel.Send [] k ch at = tt
operates_on_kept P s i choice channel.Send (v ∷ []) k ch at = sends_kept s i k ch v ch.closed at refl
operates_on_kept P s i choice channel.Send (v ∷ w ∷ vs) k ch at = tt
operates_on_kept P s i choice channel.Receive [] k ch at = receives_kept P s i k ch false choice gives at (λ s' v h. h)
operates_on_kept P s i choice channel.Receive (v ∷ vs) k ch at = tt
operates_on_kept P s i choice channel.ReceiveOrNil [] k ch at = receives_kept P s i k ch true choice gives at (λ s' v h. h)
operates_on_kept P s i choice channel.ReceiveOrNil (v ∷ vs) k ch at = tt
operates_on_kept P s i choice channel.Close [] k ch at = operates_once s.cells k ch (after_close ch) Close at refl
operates_on_kept P s i choice channel.Close (v ∷ vs) k ch at = tt
operates_on_kept P s i choice channel.IsClosed [] k ch at = unchanged s.cells
operates_on_kept P s i choice channel.IsClosed (v ∷ vs) k ch at = tt
operates_on_kept P s i choice channel.New vs k ch at = tt
operates_on_kept P s i choice channel.NewSized vs k ch at = tt

operates_at_kept : (P : World) (s : State) (i : ℕ) (choice : Choice) (o : ChannelOperation) (vs : List Value) (k : Option ℕ) → Keeps s.cells (c.operates_at P s i choice o vs k)
operates_at_kept P s i choice o vs None = tt
operates_at_kept P s i choice o vs (Some k) = or_stuck_kept s.cells (c.operates_on P s i choice o vs k) (c.channel_at s k) (λ ch at. operates_on_kept P s i choice o vs k ch at)

pub operates_kept : (P : World) (s : State) (i : ℕ) (choice : Choice) (o : ChannelOperation) (receiver : Option Value) (vs : List Value) → Keeps s.cells (c.operates P s i choice o receiver vs)
operates_kept P s i choice o None vs = tt
operates_kept P s i choice o (Some v) vs = operates_at_kept P s i choice o vs (c.cell_of v)

-- ---- a new channel

capacity_kept : (s : State) (capacity : ℕ) → Keeps s.cells (makes_cell s (Chan (new_channel capacity)) gives)
capacity_kept s capacity = makes_cell_kept s (Chan (new_channel capacity)) gives (capacity, [], refl) (λ s' v h. h)

pub channel_kept : (s : State) (vs : List Value) → Keeps s.cells (c.makes_channel s vs)
channel_kept s [] = capacity_kept s 0
channel_kept s (value.Small n ∷ []) =
    if_kept s.cells (c.is_capacity n) (makes_cell s (Chan (new_channel (c.capacity_of n))) gives) (Raises (Language Argument)) (capacity_kept s (c.capacity_of n)) tt
channel_kept s (value.Small n ∷ w ∷ vs) = tt
channel_kept s (value.Nil ∷ vs) = tt
channel_kept s (value.Flag b ∷ vs) = tt
channel_kept s (value.Big n ∷ vs) = tt
channel_kept s (value.Word text ∷ vs) = tt
channel_kept s (value.Ref r ∷ vs) = tt

-- Reductions that name a partner meet that one.
use Rattle.std.proofs.Common.{◌≡◌, inl, inr, ℕ, zero, suc, ◌==◌, ◌||◌, nat_lt, Bool, true, false, not, List, [], ◌∷◌, refl, sym, ap, subst, ◌∙◌, Option, Some, None, length, slice_get, slice_set, if◌then◌else◌}
use Rattle.std.specs.List.{list_any, list_all}
use Rattle.std.proofs.lemmas.Bool.{eqb-true}
use Rattle.std.proofs.lemmas.Option.{same_Some, none-some}
use Rattle.cr_base.specs.declared.ids.FiberId.{FiberId}
use Rattle.cr_base.specs.declared.ids.NameId.{NameId}
use Rattle.cr_base.specs.declared.ids.NodeId.{NodeId}
use Rattle.cr_value.specs.declared.value.Value.{Value}
use Rattle.cr_items.specs.declared.item.Item.{Item}
use Rattle.cr_items.specs.Channel.{Channel, after_meeting, head_value}
use Rattle.cr_builtins.specs.declared.operation.Operation.TheVariants as operation
use Rattle.cr_builtins.specs.declared.operation.ChannelOperation.{ChannelOperation}
use Rattle.cr_builtins.specs.declared.operation.ChannelOperation.TheVariants as channel
use Rattle.cr_core.specs.declared.form.Form.{Form}
use Rattle.cr_core.specs.declared.form.Form.TheVariants as f
use Rattle.cr_schedule.specs.declared.entry.Entry.TheVariants.{Steps}
use Rattle.cr_meaning.specs.World.{World, Target, Method, Builtin}
use Rattle.cr_meaning.specs.Term.{Term, Terms, Val, Node, Turn, Frame, Body, Sent, none, part}
use Rattle.cr_meaning.specs.State.{Cell, Chan, Fiber, State, set_cell, set_fiber}
use Rattle.cr_meaning.specs.Redex.{redex, put, part_at}
use Rattle.cr_meaning.specs.Act.{Act, Becomes, Jumps, Raises, Stuck, Blocked, BadChoice, Choice, no_choice, gives, or_stuck, without_clause}
use Rattle.cr_meaning.specs.Calls as calls
use Rattle.cr_meaning.specs.Channels as c
use Rattle.cr_meaning.specs.Channels.{channel_in, channel_at, cell_of, clauses, Does, Sends, Receives, Clause, received, Waits_at, at_receive, at_select, elsewhere, waits_in, Wanted, a_send, a_receive, Partner, is_partner, partners, resumed_with}
use Rattle.cr_meaning.specs.Builtins as builtins
use Rattle.cr_meaning.specs.Reduce as r
use Rattle.cr_meaning.specs.Reduce.{reduce}
use Rattle.cr_meaning.specs.Run as run
use Rattle.cr_meaning.specs.Meetings.{meeting_with, other_side, Passes, Completes, IsPassed, IsMet, IsMeeting, Leads}
use Rattle.cr_meaning.proofs.Partners.{none_met, Awaits, partner_found, is_waiting}

-- ---- lists

set_here : {X : Type 0} (xs : List X) (k : ℕ) (old new : X) → slice_get xs k ≡ Some old → slice_get (slice_set xs k new) k ≡ Some new
set_here [] k old new e = absurd (none-some old e)
set_here (x ∷ xs) zero old new e = refl
set_here (x ∷ xs) (suc k) old new e = set_here xs k old new e

set_there : {X : Type 0} (xs : List X) (k j : ℕ) (new : X) → (j ≡ k → ⊥) → slice_get (slice_set xs k new) j ≡ slice_get xs j
set_there [] k j new h = refl
set_there (x ∷ xs) zero zero new h = absurd (h refl)
set_there (x ∷ xs) zero (suc j) new h = refl
set_there (x ∷ xs) (suc k) zero new h = refl
set_there (x ∷ xs) (suc k) (suc j) new h = set_there xs k j new (λ e. h (ap suc e))

channel_set : (cells : List Cell) (k : ℕ) (old new : Channel) (at : Option Cell) → slice_get cells k ≡ at → channel_in at ≡ Some old → channel_in (slice_get (slice_set cells k (Chan new)) k) ≡ Some new
channel_set cells k old new None e is = absurd (none-some old is)
channel_set cells k old new (Some cell) e is = ap channel_in (set_here cells k cell (Chan new) e)

-- ---- a fiber that was met

-- it is ready or done, and waits nowhere
waits_nowhere : (P : World) (s : State) (fiber : Fiber) (t : Term) → c.waits_at P s (resumed_with fiber t) ≡ elsewhere
waits_nowhere P s fiber (Val v) = refl
waits_nowhere P s fiber (Node n form ps) = refl
waits_nowhere P s fiber (Turn fresh now) = refl
waits_nowhere P s fiber (Frame given t) = refl
waits_nowhere P s fiber (Body t) = refl
waits_nowhere P s fiber (Sent channel item) = refl

no_send : a_send ≡ a_receive → ⊥
no_send e = cc

-- ---- the state in which it was met

-- What a meeting leaves before the fiber that reduces has gone on.
pub record Met (P : World) (s u : State) (i p : ℕ) (clause named : Option ℕ) (wanted : Wanted) (k : ℕ) (v : Value) : Type 0 where
  pub apart : i ≡ p → ⊥
  pub passed : IsPassed s u k v
  pub possible : list_any (is_partner (meeting_with clause p named)) (partners P s wanted k i passed.channel) ≡ true
  pub partner : IsMet P s u p named wanted k v
  pub kept : slice_get u.fibers i ≡ slice_get s.fibers i

module _ (P : World) (s : State) (i p : ℕ) (clause named : Option ℕ) where
  abbrev choice : Choice
  choice = meeting_with clause p named

  -- What is known where one of those who can be met is the one that is named.
  record Known (wanted : Wanted) (k : ℕ) (ch : Channel) : Type 0 where
    pub at : channel_at s k ≡ Some ch
    pub is_open : ch.closed ≡ false
    pub empty : ch.items ≡ []
    pub settles_nothing : ch.capacity ≡ 0
    pub possible : list_any (is_partner choice) (partners P s wanted k i ch) ≡ true
    pub fiber : Fiber
    pub there : slice_get s.fibers p ≡ Some fiber
    pub apart : i ≡ p → ⊥
    pub awaits : Awaits choice wanted k p (c.waits_at P s fiber)

  same_named : (wanted : Wanted) (k number : ℕ) (at : Waits_at) → Awaits choice wanted k number at → p ≡ number
  same_named wanted k number at (inl plain) = same_Some p number plain.named.the_partner
  same_named wanted k number at (inr chosen) = same_Some p number chosen.named.the_partner

  known_by : (wanted : Wanted) (k : ℕ) (ch : Channel) (b : Bool) → (ch.capacity == 0) ≡ b → channel_at s k ≡ Some ch → ch.closed ≡ false → ch.items ≡ []
      → list_any (is_partner choice) (partners P s wanted k i ch) ≡ true
      → list_any (is_partner choice) (if b then c.meetings P s wanted k i else []) ≡ true → Known wanted k ch
  known_by wanted k ch false e at is_open empty possible h = none_met h
  known_by wanted k ch true e at is_open empty possible h =
      let it = partner_found P s i choice wanted k h in
      let same : p ≡ it.number = same_named wanted k it.number (c.waits_at P s it.fiber) it.awaits in
      record {
        at = at;
        is_open = is_open;
        empty = empty;
        settles_nothing = eqb-true ch.capacity 0 e;
        possible = possible;
        fiber = it.fiber;
        there = subst (λ m. slice_get s.fibers m ≡ Some it.fiber) (sym same) it.at;
        apart = λ one. it.another (one ∙ same);
        awaits = subst (λ m. Awaits choice wanted k m (c.waits_at P s it.fiber)) (sym same) it.awaits;
      }

  -- p goes on as this term
  abbrev met_at : ℕ → Channel → FiberId → Value → Fiber → Term → State
  met_at k ch from v fiber t = set_fiber (set_cell s k (Chan (after_meeting ch from v))) p (resumed_with fiber (put t fiber.term))

  met_is : (wanted : Wanted) (k : ℕ) (ch : Channel) (from : FiberId) (v : Value) (t : Term) (known : Known wanted k ch) → Completes wanted k v (c.waits_at P s known.fiber) named t
      → Met P s (met_at k ch from v known.fiber t) i p clause named wanted k v
  met_is wanted k ch from v t known done =
      let new = after_meeting ch from v in
      record {
        apart = known.apart;
        passed = record {
          channel = ch;
          from = from;
          was = known.at;
          settles_nothing = known.settles_nothing;
          is_open = known.is_open;
          is_empty = known.empty;
          is = channel_set s.cells k ch new (slice_get s.cells k) refl known.at;
          others = λ j h. ap channel_in (set_there s.cells k j (Chan new) h);
        };
        possible = known.possible;
        partner = record {
          fiber = known.fiber;
          goes_on = t;
          was = known.there;
          waited = is_waiting P s choice wanted k p known.fiber known.awaits;
          completed = done;
          is = set_here s.fibers p known.fiber (resumed_with known.fiber (put t known.fiber.term)) known.there;
          waits_no_more = waits_nowhere P (met_at k ch from v known.fiber t) known.fiber (put t known.fiber.term);
        };
        kept = set_there s.fibers p i (resumed_with known.fiber (put t known.fiber.term)) known.apart;
      }

  met_by : (wanted : Wanted) (k : ℕ) (ch : Channel) (from : FiberId) (v : Value) (t : Term) (known : Known wanted k ch) → Completes wanted k v (c.waits_at P s known.fiber) named t
      → Met P s (c.meets (set_cell s k (Chan (after_meeting ch from v))) (Some p) t) i p clause named wanted k v
  met_by wanted k ch from v t known done =
      subst (λ u. Met P s u i p clause named wanted k v) (ap (c.met_fiber (set_cell s k (Chan (after_meeting ch from v))) p t) (sym known.there)) (met_is wanted k ch from v t known done)

  -- ---- what an act is, where it goes on

  abbrev Good : Waits_at → Act → Type 0
  Good at (Becomes u t) = (wanted : Wanted) × (k : ℕ) × (v : Value) × Met P s u i p clause named wanted k v × Completes (other_side wanted) k v at clause t
  Good at (Jumps e) = ⊥
  Good at (Raises thrown) = ⊥
  Good at Stuck = Unit {0}
  Good at Blocked = Unit {0}
  Good at BadChoice = Unit {0}

  if_good : (at : Waits_at) (b : Bool) (a o : Act) → (b ≡ true → Good at a) → Good at o → Good at (if b then a else o)
  if_good at true a o h g = h refl
  if_good at false a o h g = g

  -- a partner is named where none is to be chosen
  unmet : (at : Waits_at) (a : Act) → Good at (c.without_partner choice a)
  unmet at a = tt

  elsewhere_by : (at : Waits_at) (number : Option ℕ) (a : Act) → Good at (without_clause number (without_clause (Some p) (without_clause named a)))
  elsewhere_by at None a = tt
  elsewhere_by at (Some n) a = tt

  elsewhere_good : (at : Waits_at) (a : Act) → Good at (r.with_choice choice elsewhere a)
  elsewhere_good at Stuck = tt
  elsewhere_good at Blocked = tt
  elsewhere_good at (Becomes u t) = elsewhere_by at clause (Becomes u t)
  elsewhere_good at (Jumps e) = elsewhere_by at clause (Jumps e)
  elsewhere_good at (Raises thrown) = elsewhere_by at clause (Raises thrown)
  elsewhere_good at BadChoice = elsewhere_by at clause BadChoice

  among_good : (at : Waits_at) (a : Act) (ps : List Partner) → (list_any (is_partner choice) ps ≡ true → Good at a) → Good at (c.meeting_among choice a ps)
  among_good at a [] h = tt
  among_good at a (q ∷ ps) h = if_good at (list_any (is_partner choice) (q ∷ ps)) a BadChoice h tt

  or_stuck_good : {A : Type 0} (at : Waits_at) (go : A → Act) (o : Option A) → ((x : A) → o ≡ Some x → Good at (go x)) → Good at (or_stuck go o)
  or_stuck_good at go None h = tt
  or_stuck_good at go (Some x) h = h x refl

  -- ---- receiving

  -- the clause that the partner is met by
  clause_is : (fiber : Fiber) (at : Waits_at) (number : Option ℕ) → slice_get s.fibers p ≡ Some fiber → c.waits_at P s fiber ≡ at → named ≡ number → c.partner_clause P s choice ≡ c.clause_in at number
  clause_is fiber at number there waits same =
      ap (c.clause_of_fiber P s named) there ∙ ap (λ w. c.clause_in w named) waits ∙ ap (c.clause_in at) same

  sender_good : (at : Waits_at) (k : ℕ) (ch : Channel) (go : State → Value → Act) (its : Clause) (known : Known a_send k ch)
      → ((u : State) (v : Value) → Met P s u i p clause named a_send k v → Good at (go u v))
      → (number : ℕ) (cs : List Clause) → c.waits_at P s known.fiber ≡ at_select cs → named ≡ Some number → slice_get cs number ≡ Some its → cell_of its.on ≡ Some k
      → (does : Does) → its.does ≡ does → c.is_wanted a_send does ≡ true → Good at (c.meets_sender s k ch choice go does its.body)
  sender_good at k ch go its known h number cs waits same there on (Sends v) does wanted =
      h (c.meets (set_cell s k (Chan (after_meeting ch (c.fiber_id (Some p)) v))) (Some p) its.body) v
      (met_by a_send k ch (c.fiber_id (Some p)) v its.body known
      (subst (λ w. Completes a_send k v w named its.body) (sym waits)
      (subst (λ m. Completes a_send k v (at_select cs) m its.body) (sym same)
      (its, there, on, subst (λ d. Passes a_send v d its.body its.body) (sym does) (refl, refl)))))
  sender_good at k ch go its known h number cs waits same there on (Receives or_nil) does wanted = tt

  sender_met : (at : Waits_at) (k : ℕ) (ch : Channel) (go : State → Value → Act) (known : Known a_send k ch)
      → ((u : State) (v : Value) → Met P s u i p clause named a_send k v → Good at (go u v))
      → Awaits choice a_send k p (c.waits_at P s known.fiber) → Good at (c.meets_sender_by s k ch choice go (c.partner_clause P s choice))
  sender_met at k ch go known h (inl plain) = absurd (no_send plain.does)
  sender_met at k ch go known h (inr it) =
      subst (λ o. Good at (c.meets_sender_by s k ch choice go o))
      (sym (clause_is known.fiber (at_select it.clauses) (Some it.number) known.there it.waits it.named.the_number ∙ it.there))
      (sender_good at k ch go it.clause known h it.number it.clauses it.waits it.named.the_number it.there it.on it.clause.does refl it.does)

  head_none : (items : List Item) → head_value items ≡ None → items ≡ []
  head_none [] e = refl
  head_none (item ∷ items) e = absurd (none-some item.value (sym e))

  receives_when_good : (at : Waits_at) (k : ℕ) (ch : Channel) (or_nil : Bool) (go : State → Value → Act) (closed : Bool) (head : Option Value)
      → channel_at s k ≡ Some ch → ch.closed ≡ closed → head_value ch.items ≡ head
      → ((u : State) (v : Value) → Met P s u i p clause named a_send k v → Good at (go u v)) → Good at (c.receives_when P s i k ch or_nil choice go closed head)
  receives_when_good at k ch or_nil go true (Some v) there closed head h = tt
  receives_when_good at k ch or_nil go false (Some v) there closed head h = tt
  receives_when_good at k ch or_nil go true None there closed head h = tt
  receives_when_good at k ch or_nil go false None there closed head h =
      among_good at (c.meets_sender_by s k ch choice go (c.partner_clause P s choice)) (partners P s a_send k i ch)
      (λ some. let known = known_by a_send k ch (ch.capacity == 0) refl there closed (head_none ch.items head) some some in sender_met at k ch go known h known.awaits)

  receives_good : (at : Waits_at) (k : ℕ) (ch : Channel) (or_nil : Bool) (go : State → Value → Act) → channel_at s k ≡ Some ch
      → ((u : State) (v : Value) → Met P s u i p clause named a_send k v → Good at (go u v)) → Good at (c.receives P s i k ch or_nil choice go)
  receives_good at k ch or_nil go there h = receives_when_good at k ch or_nil go ch.closed (head_value ch.items) there refl refl h

  -- ---- sending

  receiver_taken : (k : ℕ) (v : Value) (cs : List Clause) (number : ℕ) (its : Clause) → slice_get cs number ≡ Some its → cell_of its.on ≡ Some k → (does : Does) → its.does ≡ does → c.is_wanted a_receive does ≡ true
      → Completes a_receive k v (at_select cs) (Some number) (received v its.body)
  receiver_taken k v cs number its there on (Sends w) does wanted = none_met wanted
  receiver_taken k v cs number its there on (Receives or_nil) does wanted = (its, there, on, subst (λ d. Passes a_receive v d its.body (received v its.body)) (sym does) refl)

  receiver_completes : (k : ℕ) (v : Value) (fiber : Fiber) → slice_get s.fibers p ≡ Some fiber → Awaits choice a_receive k p (c.waits_at P s fiber)
      → Completes a_receive k v (c.waits_at P s fiber) named (c.after_receiving v (c.partner_clause P s choice))
  receiver_completes k v fiber there (inl it) =
      subst (λ o. Completes a_receive k v (c.waits_at P s fiber) named (c.after_receiving v o)) (sym (clause_is fiber (at_receive k) None there it.waits it.named.the_number))
      (subst (λ w. Completes a_receive k v w named (Val v)) (sym it.waits) (subst (λ m. Completes a_receive k v (at_receive k) m (Val v)) (sym it.named.the_number) (refl, refl)))
  receiver_completes k v fiber there (inr it) =
      subst (λ o. Completes a_receive k v (c.waits_at P s fiber) named (c.after_receiving v o)) (sym (clause_is fiber (at_select it.clauses) (Some it.number) there it.waits it.named.the_number ∙ it.there))
      (subst (λ w. Completes a_receive k v w named (received v it.clause.body)) (sym it.waits)
      (subst (λ m. Completes a_receive k v (at_select it.clauses) m (received v it.clause.body)) (sym it.named.the_number)
      (receiver_taken k v it.clauses it.number it.clause it.there it.on it.clause.does refl it.does)))

  meets_receiver_good : (at : Waits_at) (k : ℕ) (ch : Channel) (v : Value) (body : Term) (items : List Item) → channel_at s k ≡ Some ch → ch.closed ≡ false → ch.items ≡ items
      → Completes a_send k v at clause body → Good at (c.meets_receiver P s i k ch v choice body items)
  meets_receiver_good at k ch v body (item ∷ items) there is_open is own = tt
  meets_receiver_good at k ch v body [] there is_open is own =
      let t = c.after_receiving v (c.partner_clause P s choice) in
      among_good at (Becomes (c.meets (set_cell s k (Chan (after_meeting ch (record { 0 = i }) v))) (Some p) t) body) (partners P s a_receive k i ch)
      (λ some. let known = known_by a_receive k ch (ch.capacity == 0) refl there is_open is some some in
      (a_receive, k, v, met_by a_receive k ch (record { 0 = i }) v t known (receiver_completes k v known.fiber known.there known.awaits), own))

  sends_clause_good : (at : Waits_at) (k : ℕ) (ch : Channel) (v : Value) (body : Term) (closed : Bool) → channel_at s k ≡ Some ch → ch.closed ≡ closed
      → Completes a_send k v at clause body → Good at (c.sends_clause P s i k ch v choice body closed)
  sends_clause_good at k ch v body true there is own = tt
  sends_clause_good at k ch v body false there is own =
      if_good at (nat_lt (length ch.items) ch.capacity) (c.without_partner choice (Becomes (c.appended s k ch i v) body)) (c.meets_receiver P s i k ch v choice body ch.items)
      (λ room. tt) (meets_receiver_good at k ch v body ch.items there is refl own)

  -- ---- choices

  taken : (cs : List Clause) (n : ℕ) (its : Clause) (wanted : Wanted) (k : ℕ) (v : Value) (t : Term) → clause ≡ Some n → slice_get cs n ≡ Some its → cell_of its.on ≡ Some k → Passes wanted v its.does its.body t
      → Completes wanted k v (at_select cs) clause t
  taken cs n its a_send k v t same there on passes = subst (λ m. Completes a_send k v (at_select cs) m t) (sym same) (its, there, on, passes)
  taken cs n its a_receive k v t same there on passes = subst (λ m. Completes a_receive k v (at_select cs) m t) (sym same) (its, there, on, passes)

  takes_on_good : (cs : List Clause) (n : ℕ) (its : Clause) (k : ℕ) (ch : Channel) → clause ≡ Some n → slice_get cs n ≡ Some its → cell_of its.on ≡ Some k → channel_at s k ≡ Some ch
      → (does : Does) → its.does ≡ does → Good (at_select cs) (c.takes_on P s i choice does its.body k ch)
  takes_on_good cs n its k ch same there on at (Receives or_nil) does =
      receives_good (at_select cs) k ch or_nil (λ u v. Becomes u (received v its.body)) at
      (λ u v met. (a_send, k, v, met, taken cs n its a_receive k v (received v its.body) same there on (subst (λ d. Passes a_receive v d its.body (received v its.body)) (sym does) refl)))
  takes_on_good cs n its k ch same there on at (Sends v) does =
      sends_clause_good (at_select cs) k ch v its.body ch.closed at refl
      (taken cs n its a_send k v its.body same there on (subst (λ d. Passes a_send v d its.body its.body) (sym does) (refl, refl)))

  takes_at_good : (cs : List Clause) (n : ℕ) (its : Clause) (k : Option ℕ) → clause ≡ Some n → slice_get cs n ≡ Some its → cell_of its.on ≡ k → Good (at_select cs) (c.takes_at P s i choice its k)
  takes_at_good cs n its None same there on = tt
  takes_at_good cs n its (Some k) same there on =
      or_stuck_good (at_select cs) (c.takes_on P s i choice its.does its.body k) (channel_at s k) (λ ch at. takes_on_good cs n its k ch same there on at its.does refl)

  otherwise_good : (at : Waits_at) (otherwise ready : Bool) (t : Term) → Good at (c.takes_otherwise s choice otherwise ready t)
  otherwise_good at true false t = tt
  otherwise_good at true true t = tt
  otherwise_good at false ready t = tt

  chooses_by_good : (cs : List Clause) (otherwise ready : Bool) (n last : ℕ) (t : Term) (its : Option Clause) → clause ≡ Some n → slice_get cs n ≡ its
      → Good (at_select cs) (c.chooses_by P s i choice otherwise ready n last t its)
  chooses_by_good cs otherwise ready n last t (Some its) same there =
      if_good (at_select cs) (c.is_ready P s i its) (c.takes_at P s i choice its (cell_of its.on)) BadChoice (λ is. takes_at_good cs n its (cell_of its.on) same there refl) tt
  chooses_by_good cs otherwise ready n last t None same there =
      if_good (at_select cs) (n == last) (c.takes_otherwise s choice otherwise ready t) BadChoice (λ is. otherwise_good (at_select cs) otherwise ready t) tt

  chooses_good : (cs : List Clause) (otherwise ready : Bool) (t : Term) (n : Option ℕ) → clause ≡ n → Good (at_select cs) (c.chooses P s i choice otherwise ready cs t n)
  chooses_good cs otherwise ready t None same = tt
  chooses_good cs otherwise ready t (Some n) same = chooses_by_good cs otherwise ready n (length cs) t (slice_get cs n) same refl

  selects_good : (cs : List Clause) (otherwise : Bool) (t : Term) → Good (at_select cs) (c.selects P s i choice otherwise cs t)
  selects_good cs otherwise t =
      let ready = list_any (c.is_ready P s i) cs in
      if_good (at_select cs) (list_all (λ (its : Clause). c.has_channel s (cell_of its.on)) cs) (c.selects_among P s i choice otherwise ready cs t) Stuck
      (λ all. if_good (at_select cs) (otherwise || ready) (c.chooses P s i choice otherwise ready cs t clause) Blocked (λ some. chooses_good cs otherwise ready t clause refl) tt) tt

  at_select_good : (cs : List Clause) (a : Act) → Good (at_select cs) a → Good (at_select cs) (r.with_choice choice (at_select cs) a)
  at_select_good cs Stuck h = tt
  at_select_good cs Blocked h = tt
  at_select_good cs (Becomes u t) h = h
  at_select_good cs (Jumps e) h = h
  at_select_good cs (Raises thrown) h = h
  at_select_good cs BadChoice h = h

  -- ---- plain receives

  unless_named : (at : Waits_at) (n : Option ℕ) (a : Act) → (n ≡ None → Good at a) → Good at (without_clause n a)
  unless_named at None a h = h refl
  unless_named at (Some n) a h = tt

  at_receive_good : (k : ℕ) (a : Act) → (clause ≡ None → Good (at_receive k) a) → Good (at_receive k) (r.with_choice choice (at_receive k) a)
  at_receive_good k Stuck h = tt
  at_receive_good k Blocked h = tt
  at_receive_good k (Becomes u t) h = unless_named (at_receive k) clause (Becomes u t) h
  at_receive_good k (Jumps e) h = unless_named (at_receive k) clause (Jumps e) h
  at_receive_good k (Raises thrown) h = unless_named (at_receive k) clause (Raises thrown) h
  at_receive_good k BadChoice h = unless_named (at_receive k) clause BadChoice h

  plain_good : (k : ℕ) (or_nil : Bool) (ch : Channel) → channel_at s k ≡ Some ch → clause ≡ None → Good (at_receive k) (c.receives P s i k ch or_nil choice gives)
  plain_good k or_nil ch at same =
      receives_good (at_receive k) k ch or_nil gives at
      (λ u v met. (a_send, k, v, met, subst (λ m. Completes a_receive k v (at_receive k) m (Val v)) (sym same) (refl, refl)))

  receive_good : (o : ChannelOperation) (or_nil : Bool) (cell : Option ℕ)
      → ((k : ℕ) (ch : Channel) → c.operates_on P s i choice o [] k ch ≡ c.receives P s i k ch or_nil choice gives)
      → Good (c.receive_on true cell) (r.with_choice choice (c.receive_on true cell) (c.operates_at P s i choice o [] cell))
  receive_good o or_nil None is = tt
  receive_good o or_nil (Some k) is =
      at_receive_good k (or_stuck (c.operates_on P s i choice o [] k) (channel_at s k))
      (λ same. or_stuck_good (at_receive k) (c.operates_on P s i choice o [] k) (channel_at s k)
      (λ ch at. subst (Good (at_receive k)) (sym (is k ch)) (plain_good k or_nil ch at same)))

  -- ---- any redex

  abbrev Fits : Term → Fiber → Type 0
  Fits t fiber = Good (waits_in P s t) (r.with_choice choice (waits_in P s t) (r.act P s i fiber choice t))

  out : (fiber : Fiber) (t : Term) → waits_in P s t ≡ elsewhere → Fits t fiber
  out fiber t e =
      subst (λ w. Good w (r.with_choice choice w (r.act P s i fiber choice t))) (sym e) (elsewhere_good elsewhere (r.act P s i fiber choice t))

  call_good : (fiber : Fiber) (v : Value) (target : Option Target)
      → Good (c.receive_on (c.is_receive target) (cell_of v))
      (r.with_choice choice (c.receive_on (c.is_receive target) (cell_of v)) (calls.goes_on P s i fiber (Some v) [] None (builtins.built_in P s i choice (Some v) []) target))
  call_good fiber v None = tt
  call_good fiber v (Some (Method m)) = elsewhere_good elsewhere (calls.calls P s i fiber None (calls.receiver_for P m (Some v)) m [] None)
  call_good fiber v (Some (Builtin (operation.Scalar o))) = elsewhere_good elsewhere (builtins.built_in P s i choice (Some v) [] (operation.Scalar o))
  call_good fiber v (Some (Builtin (operation.Array o))) = elsewhere_good elsewhere (builtins.built_in P s i choice (Some v) [] (operation.Array o))
  call_good fiber v (Some (Builtin (operation.Hash o))) = elsewhere_good elsewhere (builtins.built_in P s i choice (Some v) [] (operation.Hash o))
  call_good fiber v (Some (Builtin (operation.Context o))) = elsewhere_good elsewhere (builtins.built_in P s i choice (Some v) [] (operation.Context o))
  call_good fiber v (Some (Builtin (operation.Channel channel.Receive))) = receive_good channel.Receive false (cell_of v) (λ k ch. refl)
  call_good fiber v (Some (Builtin (operation.Channel channel.ReceiveOrNil))) = receive_good channel.ReceiveOrNil true (cell_of v) (λ k ch. refl)
  call_good fiber v (Some (Builtin (operation.Channel channel.New))) = elsewhere_good elsewhere (builtins.built_in P s i choice (Some v) [] (operation.Channel channel.New))
  call_good fiber v (Some (Builtin (operation.Channel channel.NewSized))) = elsewhere_good elsewhere (builtins.built_in P s i choice (Some v) [] (operation.Channel channel.NewSized))
  call_good fiber v (Some (Builtin (operation.Channel channel.Send))) = elsewhere_good elsewhere (builtins.built_in P s i choice (Some v) [] (operation.Channel channel.Send))
  call_good fiber v (Some (Builtin (operation.Channel channel.Close))) = elsewhere_good elsewhere (builtins.built_in P s i choice (Some v) [] (operation.Channel channel.Close))
  call_good fiber v (Some (Builtin (operation.Channel channel.IsClosed))) = elsewhere_good elsewhere (builtins.built_in P s i choice (Some v) [] (operation.Channel channel.IsClosed))

  -- a call with a receiver and no block: where the receiver is all that is there, it may be a receive
  written_good : (fiber : Fiber) (n : NodeId) (name : NameId) (ps : Terms) → Fits (Node n (f.Call name true false) ps) fiber
  written_good fiber n name none = out fiber (Node n (f.Call name true false) none) refl
  written_good fiber n name (part (Val v) none) = call_good fiber v (P.choose (calls.class_of P s v) name [] false false)
  written_good fiber n name (part (Val v) (part t ts)) = out fiber (Node n (f.Call name true false) (part (Val v) (part t ts))) refl
  written_good fiber n name (part (Node m form us) ts) = out fiber (Node n (f.Call name true false) (part (Node m form us) ts)) refl
  written_good fiber n name (part (Turn fresh now) ts) = out fiber (Node n (f.Call name true false) (part (Turn fresh now) ts)) refl
  written_good fiber n name (part (Frame given t) ts) = out fiber (Node n (f.Call name true false) (part (Frame given t) ts)) refl
  written_good fiber n name (part (Body t) ts) = out fiber (Node n (f.Call name true false) (part (Body t) ts)) refl
  written_good fiber n name (part (Sent cell item) ts) = out fiber (Node n (f.Call name true false) (part (Sent cell item) ts)) refl

  node_good : (fiber : Fiber) (n : NodeId) (form : Form) (ps : Terms) → Fits (Node n form ps) fiber
  node_good fiber n f.Nil ps = out fiber (Node n f.Nil ps) refl
  node_good fiber n f.True ps = out fiber (Node n f.True ps) refl
  node_good fiber n f.False ps = out fiber (Node n f.False ps) refl
  node_good fiber n (f.Int32 k) ps = out fiber (Node n (f.Int32 k) ps) refl
  node_good fiber n (f.Int64 k) ps = out fiber (Node n (f.Int64 k) ps) refl
  node_good fiber n (f.Text text) ps = out fiber (Node n (f.Text text) ps) refl
  node_good fiber n (f.Local x) ps = out fiber (Node n (f.Local x) ps) refl
  node_good fiber n (f.Set x) ps = out fiber (Node n (f.Set x) ps) refl
  node_good fiber n (f.Field name) ps = out fiber (Node n (f.Field name) ps) refl
  node_good fiber n (f.SetField name) ps = out fiber (Node n (f.SetField name) ps) refl
  node_good fiber n f.KeywordSelf ps = out fiber (Node n f.KeywordSelf ps) refl
  node_good fiber n f.Seq ps = out fiber (Node n f.Seq ps) refl
  node_good fiber n f.If ps = out fiber (Node n f.If ps) refl
  node_good fiber n f.And ps = out fiber (Node n f.And ps) refl
  node_good fiber n f.Or ps = out fiber (Node n f.Or ps) refl
  node_good fiber n f.Not ps = out fiber (Node n f.Not ps) refl
  node_good fiber n f.IsA ps = out fiber (Node n f.IsA ps) refl
  node_good fiber n f.While ps = out fiber (Node n f.While ps) refl
  node_good fiber n f.Again ps = out fiber (Node n f.Again ps) refl
  node_good fiber n f.Return ps = out fiber (Node n f.Return ps) refl
  node_good fiber n f.Next ps = out fiber (Node n f.Next ps) refl
  node_good fiber n f.Break ps = out fiber (Node n f.Break ps) refl
  node_good fiber n (f.Call name false block) ps = out fiber (Node n (f.Call name false block) ps) refl
  node_good fiber n (f.Call name true true) ps = out fiber (Node n (f.Call name true true) ps) refl
  node_good fiber n (f.Call name true false) ps = written_good fiber n name ps
  node_good fiber n f.Super ps = out fiber (Node n f.Super ps) refl
  node_good fiber n (f.New question block) ps = out fiber (Node n (f.New question block) ps) refl
  node_good fiber n f.Yield ps = out fiber (Node n f.Yield ps) refl
  node_good fiber n (f.Spawn context) ps = out fiber (Node n (f.Spawn context) ps) refl
  node_good fiber n f.Raise ps = out fiber (Node n f.Raise ps) refl
  node_good fiber n f.Puts ps = out fiber (Node n f.Puts ps) refl
  node_good fiber n f.Pause ps = out fiber (Node n f.Pause ps) refl
  node_good fiber n (f.Array of) ps = out fiber (Node n (f.Array of) ps) refl
  node_good fiber n (f.Hash of) ps = out fiber (Node n (f.Hash of) ps) refl
  node_good fiber n (f.Select otherwise) ps =
      at_select_good (clauses ps) (c.selects P s i choice otherwise (clauses ps) (part_at (length (clauses ps)) ps)) (selects_good (clauses ps) otherwise (part_at (length (clauses ps)) ps))
  node_good fiber n f.Received ps = out fiber (Node n f.Received ps) refl
  node_good fiber n f.Send ps = out fiber (Node n f.Send ps) refl
  node_good fiber n f.Receive ps = out fiber (Node n f.Receive ps) refl
  node_good fiber n f.ReceiveOrNil ps = out fiber (Node n f.ReceiveOrNil ps) refl
  node_good fiber n (f.Atom name) ps = out fiber (Node n (f.Atom name) ps) refl
  node_good fiber n f.Union ps = out fiber (Node n f.Union ps) refl
  node_good fiber n (f.Program scope) ps = out fiber (Node n (f.Program scope) ps) refl
  node_good fiber n (f.Def name scope result written) ps = out fiber (Node n (f.Def name scope result written) ps) refl
  node_good fiber n (f.Block scope) ps = out fiber (Node n (f.Block scope) ps) refl
  node_good fiber n (f.Parameter slot restricted) ps = out fiber (Node n (f.Parameter slot restricted) ps) refl
  node_good fiber n (f.Class name superclass) ps = out fiber (Node n (f.Class name superclass) ps) refl
  node_good fiber n (f.TypeParameter name) ps = out fiber (Node n (f.TypeParameter name) ps) refl
  node_good fiber n (f.Module name) ps = out fiber (Node n (f.Module name) ps) refl
  node_good fiber n (f.Include name) ps = out fiber (Node n (f.Include name) ps) refl
  node_good fiber n (f.Declaration name) ps = out fiber (Node n (f.Declaration name) ps) refl

  act_good : (fiber : Fiber) (t : Term) → Fits t fiber
  act_good fiber (Val v) = tt
  act_good fiber (Node n form ps) = node_good fiber n form ps
  act_good fiber (Turn fresh now) = out fiber (Turn fresh now) refl
  act_good fiber (Frame given t) = out fiber (Frame given t) refl
  act_good fiber (Body t) = out fiber (Body t) refl
  act_good fiber (Sent cell item) = out fiber (Sent cell item) refl

  -- ---- the new state

  ends_in : (u : State) (t : Term) (fiber : Fiber) (operation : Term) (wanted : Wanted) (k : ℕ) (v : Value) → slice_get s.fibers i ≡ Some fiber → redex fiber.term ≡ Some operation
      → Met P s u i p clause named wanted k v → Completes (other_side wanted) k v (waits_in P s operation) clause t → IsMeeting P s (r.becomes u i t (Some fiber)) i p clause named
  ends_in u t fiber operation wanted k v there is met own =
      let passed = met.passed in
      let partner = met.partner in
      let whole = r.with_whole fiber (put t fiber.term) in
      record {
        cell = k;
        value = v;
        wanted = wanted;
        apart = met.apart;
        passed = record {
          channel = passed.channel;
          from = passed.from;
          was = passed.was;
          settles_nothing = passed.settles_nothing;
          is_open = passed.is_open;
          is_empty = passed.is_empty;
          is = passed.is;
          others = passed.others;
        };
        possible = met.possible;
        partner = record {
          fiber = partner.fiber;
          goes_on = partner.goes_on;
          was = partner.was;
          waited = partner.waited;
          completed = partner.completed;
          is = set_there u.fibers i p whole (λ e. met.apart (sym e)) ∙ partner.is;
          waits_no_more = waits_nowhere P (set_fiber u i whole) partner.fiber (put partner.goes_on partner.fiber.term);
        };
        own = record { fiber = fiber; operation = operation; goes_on = t; was = there; is_redex = is; completed = own; is = set_here u.fibers i fiber whole (met.kept ∙ there) };
      }

  ends : (u : State) (t : Term) (fiber : Fiber) (operation : Term) (wanted : Wanted) (k : ℕ) (v : Value) → slice_get s.fibers i ≡ Some fiber → redex fiber.term ≡ Some operation
      → Met P s u i p clause named wanted k v → Completes (other_side wanted) k v (waits_in P s operation) clause t → IsMeeting P s (r.becomes u i t (slice_get u.fibers i)) i p clause named
  ends u t fiber operation wanted k v there is met own =
      subst (λ o. IsMeeting P s (r.becomes u i t o) i p clause named) (sym (met.kept ∙ there)) (ends_in u t fiber operation wanted k v there is met own)

  going : (s' : State) (fiber : Fiber) (operation : Term) (a : Act) → slice_get s.fibers i ≡ Some fiber → redex fiber.term ≡ Some operation → Good (waits_in P s operation) a
      → run.new_state (r.reduced_by s i fiber a) ≡ Some s' → IsMeeting P s s' i p clause named
  going s' fiber operation (Becomes u t) there is good e =
      subst (λ w. IsMeeting P s w i p clause named) (same_Some (r.becomes u i t (slice_get u.fibers i)) s' e) (ends u t fiber operation good.0 good.1 good.2 there is good.3 good.4)
  going s' fiber operation (Jumps exit) there is good e = absurd good
  going s' fiber operation (Raises thrown) there is good e = absurd good
  going s' fiber operation Stuck there is good e = absurd (none-some s' e)
  going s' fiber operation Blocked there is good e = absurd (none-some s' e)
  going s' fiber operation BadChoice there is good e = absurd (none-some s' e)

  at_met : (s' : State) (fiber : Fiber) (t : Option Term) → slice_get s.fibers i ≡ Some fiber → redex fiber.term ≡ t → run.new_state (r.reduced_at P s i fiber choice t) ≡ Some s' → IsMeeting P s s' i p clause named
  at_met s' fiber None there is e = absurd (none-some s' e)
  at_met s' fiber (Some t) there is e = going s' fiber t (r.with_choice choice (waits_in P s t) (r.act P s i fiber choice t)) there is (act_good fiber t) e

  of_met : (s' : State) (o : Option Fiber) → slice_get s.fibers i ≡ o → run.new_state (r.reduced_of P s i choice o) ≡ Some s' → IsMeeting P s s' i p clause named
  of_met s' None there e = absurd (none-some s' e)
  of_met s' (Some fiber) there e = at_met s' fiber (redex fiber.term) there refl e

pub partner_is_met : (P : World) (s s' : State) (i p : ℕ) (clause named : Option ℕ) → run.new_state (reduce P s i (meeting_with clause p named)) ≡ Some s' → IsMeeting P s s' i p clause named
unfolding reduce
partner_is_met P s s' i p clause named e = of_met P s i p clause named s' (slice_get s.fibers i) refl e

-- ---- entries

where_went : (b : Bool) (o : Option State) (s : State) → run.where_true b o ≡ Some s → o ≡ Some s
where_went true o s e = e
where_went false o s e = absurd (none-some s e)

steps_then : (P : World) (n i : ℕ) (last : Choice) (s s' : State) (o : Option State) → run.step P i no_choice s ≡ o → run.and_then o (run.steps P (suc n) i last) ≡ Some s'
    → ((u : State) → run.steps P (suc n) i last u ≡ Some s' → (t : State) × Leads P n i u t × (run.step P i last t ≡ Some s'))
    → (t : State) × Leads P (suc n) i s t × (run.step P i last t ≡ Some s')
steps_then P n i last s s' None at e later = absurd (none-some s' e)
steps_then P n i last s s' (Some u) at e later = let it = later u e in (it.0, (u, at, it.1), it.2)

steps_lead : (P : World) (n i : ℕ) (last : Choice) (s s' : State) → run.steps P (suc n) i last s ≡ Some s' → (t : State) × Leads P n i s t × (run.step P i last t ≡ Some s')
steps_lead P zero i last s s' e = (s, refl, e)
steps_lead P (suc n) i last s s' e = steps_then P n i last s s' (run.step P i no_choice s) refl e (λ u later. steps_lead P n i last u s' later)

pub entry_meets : (P : World) (s s' : State) (fiber partner : FiberId) (count : ℕ) (clause named : Option ℕ)
    → run.after P (Steps fiber count clause (Some partner) named) s ≡ Some s'
    → (n : ℕ) × (t : State) × (count ≡ suc n) × Leads P n fiber.0 s t × IsMeeting P t s' fiber.0 partner.0 clause named
unfolding run.after
entry_meets P s s' fiber partner zero clause named e =
    absurd (none-some s' (where_went (not (run.is_done (run.status_at s 0))) None s' e))
entry_meets P s s' fiber partner (suc n) clause named e =
    let last = meeting_with clause partner.0 named in
    let it = steps_lead P n fiber.0 last s s' (where_went (not (run.is_done (run.status_at s 0))) (run.steps P (suc n) fiber.0 last s) s' e) in
    let went = where_went (run.is_current (run.status_at it.0 fiber.0)) (run.new_state (reduce P it.0 fiber.0 last)) s' it.2 in
    (n, it.0, refl, it.1, partner_is_met P it.0 s' fiber.0 partner.0 clause named went)

-- What a meeting does: to the two fibers, and to the channel.
use Rattle.std.specs.Prelude.{◌≡◌, ℕ, zero, suc, true, false, [], Option, Some, None, slice_get}
use Rattle.std.specs.List.{list_any}
use Rattle.cr_base.specs.declared.ids.FiberId.{FiberId}
use Rattle.cr_value.specs.declared.value.Value.{Value}
use Rattle.cr_items.specs.Channel.{Channel, after_meeting}
use Rattle.cr_schedule.specs.declared.entry.Entry.TheVariants.{Steps}
use Rattle.cr_meaning.specs.World.{World}
use Rattle.cr_meaning.specs.Term.{Term, Val}
use Rattle.cr_meaning.specs.State.{Fiber, Waiting, State}
use Rattle.cr_meaning.specs.Redex.{redex, put}
use Rattle.cr_meaning.specs.Act.{Choice, no_choice}
use Rattle.cr_meaning.specs.Channels.{channel_at, cell_of, Does, Sends, Receives, Clause, received, Waits_at, at_receive, at_select, elsewhere, waits_in, waits_at, Wanted, a_send, a_receive, is_partner, partners, resumed_with}
use Rattle.cr_meaning.specs.Reduce.{reduce, with_whole}
use Rattle.cr_meaning.specs.Run.{new_state, step, after}

-- the choice of a meeting with fiber p, by a clause of its own and a clause of the partner's
abbrev pub meeting_with : Option ℕ → ℕ → Option ℕ → Choice
meeting_with clause p named = record { clause = clause; partner = Some p; partner_clause = named }

abbrev pub other_side : Wanted → Wanted
other_side a_send = a_receive
other_side a_receive = a_send

-- A clause that does what is wanted goes on as this term, where the value passes: it is the one that is sent, or stands for what is received.
abbrev pub Passes : Wanted → Value → Does → (body goes_on : Term) → Type 0
Passes a_send v (Sends w) body t = (w ≡ v) × (t ≡ body)
Passes a_receive v (Receives or_nil) body t = t ≡ received v body
Passes wanted v does body t = ⊥

-- What stands at such an operation is completed on the channel of cell k, where the value passes, and goes on as this term: by the clause of
-- its choice that has this number, or, where no number is named, at its plain receive.
abbrev pub Completes : Wanted → ℕ → Value → Waits_at → Option ℕ → Term → Type 0
Completes a_receive k v (at_receive j) None t = (j ≡ k) × (t ≡ Val v)
Completes wanted k v (at_select cs) (Some n) t = (clause : Clause) × (slice_get cs n ≡ Some clause) × (cell_of clause.on ≡ Some k) × Passes wanted v clause.does clause.body t
Completes wanted k v at number t = ⊥

-- The value passes through the channel of cell k, which settles nothing, is open and has no items. No other channel changes.
pub record IsPassed (s s' : State) (k : ℕ) (v : Value) : Type 0 where
  pub channel : Channel
  pub from : FiberId
  pub was : channel_at s k ≡ Some channel
  pub settles_nothing : channel.capacity ≡ 0
  pub is_open : channel.closed ≡ false
  pub is_empty : channel.items ≡ []
  pub is : channel_at s' k ≡ Some (after_meeting channel from v)
  pub others : (j : ℕ) → (j ≡ k → ⊥) → channel_at s' j ≡ channel_at s j

-- Fiber p is met: it waited at an operation that does what is wanted, which is completed by the clause that is named. It waits no more, so
-- that no other clause of its choice stands.
pub record IsMet (P : World) (s s' : State) (p : ℕ) (named : Option ℕ) (wanted : Wanted) (k : ℕ) (v : Value) : Type 0 where
  pub fiber : Fiber
  pub goes_on : Term
  pub was : slice_get s.fibers p ≡ Some fiber
  pub waited : fiber.status ≡ Waiting
  pub completed : Completes wanted k v (waits_at P s fiber) named goes_on
  pub is : slice_get s'.fibers p ≡ Some (resumed_with fiber (put goes_on fiber.term))
  pub waits_no_more : waits_at P s' (resumed_with fiber (put goes_on fiber.term)) ≡ elsewhere

-- Fiber i completes its own operation by the meeting.
pub record Meets (P : World) (s s' : State) (i : ℕ) (clause : Option ℕ) (wanted : Wanted) (k : ℕ) (v : Value) : Type 0 where
  pub fiber : Fiber
  pub operation : Term
  pub goes_on : Term
  pub was : slice_get s.fibers i ≡ Some fiber
  pub is_redex : redex fiber.term ≡ Some operation
  pub completed : Completes wanted k v (waits_in P s operation) clause goes_on
  pub is : slice_get s'.fibers i ≡ Some (with_whole fiber (put goes_on fiber.term))

-- A reduction of fiber i, from s to s', is a meeting with fiber p, another one, which could be met by the clause that is named: a value
-- passes from one to the other.
pub record IsMeeting (P : World) (s s' : State) (i p : ℕ) (clause named : Option ℕ) : Type 0 where
  pub cell : ℕ
  pub value : Value
  pub wanted : Wanted  -- of the partner
  pub apart : i ≡ p → ⊥
  pub passed : IsPassed s s' cell value
  pub possible : list_any (is_partner (meeting_with clause p named)) (partners P s wanted cell i passed.channel) ≡ true
  pub partner : IsMet P s s' p named wanted cell value
  pub own : Meets P s s' i clause (other_side wanted) cell value

-- Each reduction that names a partner is a meeting with that one.
abbrev pub PartnersAreMet : Type 0
PartnersAreMet = (P : World) (s s' : State) (i p : ℕ) (clause named : Option ℕ) → new_state (reduce P s i (meeting_with clause p named)) ≡ Some s' → IsMeeting P s s' i p clause named

-- so many reductions of fiber i without a choice lead from one state to the other
abbrev pub Leads : World → ℕ → ℕ → State → State → Type 0
Leads P zero i s t = s ≡ t
Leads P (suc n) i s t = (u : State) × (step P i no_choice s ≡ Some u) × Leads P n i u t

-- Each legal entry that names a partner: its last reduction is a meeting with that one, by the clauses that are named.
abbrev pub EntriesMeet : Type 0
EntriesMeet = (P : World) (s s' : State) (fiber partner : FiberId) (count : ℕ) (clause named : Option ℕ)
    → after P (Steps fiber count clause (Some partner) named) s ≡ Some s'
    → (n : ℕ) × (t : State) × (count ≡ suc n) × Leads P n fiber.0 s t × IsMeeting P t s' fiber.0 partner.0 clause named

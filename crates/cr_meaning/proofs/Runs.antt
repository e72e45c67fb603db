-- What a reduction, an entry and a history do to channels.
use Rattle.std.proofs.Common.{◌≡◌, ℕ, zero, suc, Bool, true, false, not, ◌&&◌, List, [], ◌∷◌, ◌++◌, refl, sym, ap, subst, ◌∙◌, Option, Some, None, slice_get}
use Rattle.std.proofs.lemmas.Bool.{both_ways}
use Rattle.std.proofs.lemmas.Option.{same_Some, none-some}
use Rattle.cr_schedule.specs.declared.entry.Entry.{Entry}
use Rattle.cr_schedule.specs.declared.entry.Entry.TheVariants as entry
use Rattle.cr_items.specs.Channel.{Channel, Operation, new_channel, run as operated, IsFront, IsLawful}
use Rattle.cr_meaning.specs.World.{World}
use Rattle.cr_meaning.specs.Term.{Term}
use Rattle.cr_meaning.specs.State.{Cell, Fiber, Status, Current, Waiting, Done, Raised, State}
use Rattle.cr_meaning.specs.Act.{Act, Becomes, Jumps, Raises, Stuck, Blocked, BadChoice, Choice, no_choice, without_choice, without_clause}
use Rattle.cr_meaning.specs.Channels.{channel_at, Waits_at, at_receive, at_select, elsewhere, waits_in}
use Rattle.cr_meaning.specs.Redex.{Jump, Outwards, Ends, Barred, redex, jump}
use Rattle.cr_meaning.specs.Reduce as r
use Rattle.cr_meaning.specs.Reduce.{Reduced, Went, Raised_, Is_stuck, Is_blocked, Is_bad, reduce}
use Rattle.cr_meaning.specs.Run as run
use Rattle.cr_meaning.specs.Histories.{Evolves, Evolve, channel_of, OneEnding}
use Rattle.cr_meaning.proofs.Evolving.{unchanged, later}
use Rattle.cr_meaning.proofs.Kept.{Keeps, clause_kept}
use Rattle.cr_meaning.proofs.Reducing.{act_kept}

all_kept : (cells : List Cell) (choice : Choice) (a : Act) → Keeps cells a → Keeps cells (without_clause choice.clause (without_clause choice.partner (without_clause choice.partner_clause a)))
all_kept cells choice a h =
    clause_kept cells choice.clause (without_clause choice.partner (without_clause choice.partner_clause a))
    (clause_kept cells choice.partner (without_clause choice.partner_clause a) (clause_kept cells choice.partner_clause a h))

choice_kept : (cells : List Cell) (choice : Choice) (a : Act) → Keeps cells a → Keeps cells (without_choice choice a)
choice_kept cells choice Stuck h = tt
choice_kept cells choice Blocked h = tt
choice_kept cells choice (Becomes s t) h = all_kept cells choice (Becomes s t) h
choice_kept cells choice (Jumps e) h = all_kept cells choice (Jumps e) h
choice_kept cells choice (Raises thrown) h = all_kept cells choice (Raises thrown) h
choice_kept cells choice BadChoice h = all_kept cells choice BadChoice h

with_choice_kept : (cells : List Cell) (choice : Choice) (at : Waits_at) (a : Act) → Keeps cells a → Keeps cells (r.with_choice choice at a)
with_choice_kept cells choice at Stuck h = tt
with_choice_kept cells choice at Blocked h = tt
with_choice_kept cells choice elsewhere (Becomes s t) h = choice_kept cells choice (Becomes s t) h
with_choice_kept cells choice elsewhere (Jumps e) h = choice_kept cells choice (Jumps e) h
with_choice_kept cells choice elsewhere (Raises thrown) h = choice_kept cells choice (Raises thrown) h
with_choice_kept cells choice elsewhere BadChoice h = choice_kept cells choice BadChoice h
with_choice_kept cells choice (at_receive k) (Becomes s t) h = clause_kept cells choice.clause (Becomes s t) h
with_choice_kept cells choice (at_receive k) (Jumps e) h = clause_kept cells choice.clause (Jumps e) h
with_choice_kept cells choice (at_receive k) (Raises thrown) h = clause_kept cells choice.clause (Raises thrown) h
with_choice_kept cells choice (at_receive k) BadChoice h = clause_kept cells choice.clause BadChoice h
with_choice_kept cells choice (at_select cs) (Becomes s t) h = h
with_choice_kept cells choice (at_select cs) (Jumps e) h = h
with_choice_kept cells choice (at_select cs) (Raises thrown) h = h
with_choice_kept cells choice (at_select cs) BadChoice h = h

-- ---- a reduction

-- what it leads to, where it leads to a state
abbrev pub LeadsTo : List Cell → Reduced → Type 0
LeadsTo cells (Went s) = Evolve cells s.cells
LeadsTo cells (Raised_ s) = Evolve cells s.cells
LeadsTo cells Is_stuck = Unit {0}
LeadsTo cells Is_blocked = Unit {0}
LeadsTo cells Is_bad = Unit {0}

becomes_cells : (s : State) (i : ℕ) (t : Term) (fiber : Option Fiber) → (r.becomes s i t fiber).cells ≡ s.cells
becomes_cells s i t None = refl
becomes_cells s i t (Some fiber) = refl

jumped_leads : (s : State) (i : ℕ) (fiber : Fiber) (j : Jump) → LeadsTo s.cells (r.jumped s i fiber j)
jumped_leads s i fiber Outwards = tt
jumped_leads s i fiber Barred = tt
jumped_leads s i fiber (Ends leaves t) = unchanged s.cells

reduced_leads : (s : State) (i : ℕ) (fiber : Fiber) (a : Act) → Keeps s.cells a → LeadsTo s.cells (r.reduced_by s i fiber a)
reduced_leads s i fiber (Becomes s' t) h = subst (Evolve s.cells) (sym (becomes_cells s' i t (slice_get s'.fibers i))) h
reduced_leads s i fiber (Jumps e) h = jumped_leads s i fiber (jump e fiber.term)
reduced_leads s i fiber (Raises thrown) h = unchanged s.cells
reduced_leads s i fiber Stuck h = tt
reduced_leads s i fiber Blocked h = tt
reduced_leads s i fiber BadChoice h = tt

at_leads : (P : World) (s : State) (i : ℕ) (fiber : Fiber) (choice : Choice) (t : Option Term) → LeadsTo s.cells (r.reduced_at P s i fiber choice t)
at_leads P s i fiber choice None = tt
at_leads P s i fiber choice (Some t) =
    reduced_leads s i fiber (r.with_choice choice (waits_in P s t) (r.act P s i fiber choice t)) (with_choice_kept s.cells choice (waits_in P s t) (r.act P s i fiber choice t) (act_kept P s i fiber choice t))

of_leads : (P : World) (s : State) (i : ℕ) (choice : Choice) (fiber : Option Fiber) → LeadsTo s.cells (r.reduced_of P s i choice fiber)
of_leads P s i choice None = tt
of_leads P s i choice (Some fiber) = at_leads P s i fiber choice (redex fiber.term)

reduce_leads : (P : World) (s : State) (i : ℕ) (choice : Choice) → LeadsTo s.cells (reduce P s i choice)
unfolding reduce
reduce_leads P s i choice = of_leads P s i choice (slice_get s.fibers i)

-- ---- an entry

-- what a state that may be there has of these cells
abbrev pub Goes : List Cell → Option State → Type 0
Goes cells None = Unit {0}
Goes cells (Some s) = Evolve cells s.cells

new_state_goes : (cells : List Cell) (reduced : Reduced) → LeadsTo cells reduced → Goes cells (run.new_state reduced)
new_state_goes cells (Went s) h = h
new_state_goes cells (Raised_ s) h = h
new_state_goes cells Is_stuck h = tt
new_state_goes cells Is_blocked h = tt
new_state_goes cells Is_bad h = tt

where_true_goes : (cells : List Cell) (b : Bool) (s : Option State) → Goes cells s → Goes cells (run.where_true b s)
where_true_goes cells true s h = h
where_true_goes cells false s h = tt

goes_later : (cells cells' : List Cell) (s : Option State) → Evolve cells cells' → Goes cells' s → Goes cells s
goes_later cells cells' None first h = tt
goes_later cells cells' (Some s) first h = later cells cells' s.cells first h

and_then_goes : (cells : List Cell) (s : Option State) (go : State → Option State) → Goes cells s → ((s' : State) → Goes s'.cells (go s')) → Goes cells (run.and_then s go)
and_then_goes cells None go h g = tt
and_then_goes cells (Some s) go h g = goes_later cells s.cells (go s) h (g s)

step_goes : (P : World) (i : ℕ) (choice : Choice) (s : State) → Goes s.cells (run.step P i choice s)
step_goes P i choice s =
    where_true_goes s.cells (run.is_current (run.status_at s i)) (run.new_state (reduce P s i choice)) (new_state_goes s.cells (reduce P s i choice) (reduce_leads P s i choice))

steps_go : (P : World) (n i : ℕ) (choice : Choice) (s : State) → Goes s.cells (run.steps P n i choice s)
steps_go P zero i choice s = tt
steps_go P (suc zero) i choice s = step_goes P i choice s
steps_go P (suc (suc n)) i choice s = and_then_goes s.cells (run.step P i no_choice s) (run.steps P (suc n) i choice) (step_goes P i no_choice s) (steps_go P (suc n) i choice)

status_goes : (s : State) (i : ℕ) (status : Status) (fiber : Option Fiber) → Goes s.cells (run.set_status s i status fiber)
status_goes s i status None = tt
status_goes s i status (Some fiber) = unchanged s.cells

waits_goes : (P : World) (i : ℕ) (s : State) → Goes s.cells (run.waits P i s)
waits_goes P i s =
    where_true_goes s.cells (run.is_current (run.status_at s i) && run.is_blocked (reduce P s i no_choice)) (run.set_status s i Waiting (slice_get s.fibers i)) (status_goes s i Waiting (slice_get s.fibers i))

resumes_fiber_goes : (P : World) (i : ℕ) (s : State) (fiber : Option Fiber) → Goes s.cells (run.resumes_fiber P i s fiber)
resumes_fiber_goes P i s None = tt
resumes_fiber_goes P i s (Some fiber) =
    where_true_goes s.cells (run.can_go_on P s i fiber.status && run.has_room s fiber.context) (run.set_status s i Current (Some fiber)) (status_goes s i Current (Some fiber))

enters_goes : (P : World) (e : Entry) (s : State) → Goes s.cells (run.enters P e s)
enters_goes P (entry.Steps fiber count clause partner partner_clause) s =
    steps_go P count fiber.0 (record { clause = clause; partner = run.number_of partner; partner_clause = partner_clause }) s
enters_goes P (entry.Wait fiber) s = waits_goes P fiber.0 s
enters_goes P (entry.Resume fiber) s = resumes_fiber_goes P fiber.0 s (slice_get s.fibers fiber.0)

after_goes : (P : World) (e : Entry) (s : State) → Goes s.cells (run.after P e s)
unfolding run.after
after_goes P e s = where_true_goes s.cells (not (run.is_done (run.status_at s 0))) (run.enters P e s) (enters_goes P e s)

-- ---- histories

pub history_goes : (P : World) (entries : List Entry) (s : State) → Goes s.cells (run.run_from P s entries)
history_goes P [] s = unchanged s.cells
history_goes P (e ∷ es) s = and_then_goes s.cells (run.after P e s) (λ s'. run.run_from P s' es) (after_goes P e s) (history_goes P es)

pub channels_evolve : (P : World) (s s' : State) (entries : List Entry) → run.run_from P s entries ≡ Some s' → Evolve s.cells s'.cells
channels_evolve P s s' entries e = subst (Goes s.cells) e (history_goes P entries s)

-- ---- laws

-- at the start there is no cell
made_by : (o : Option Channel) (c : Channel) → o ≡ Some c → Evolves None o → (capacity : ℕ) × (operations : List Operation) × (c ≡ operated (new_channel capacity) operations)
made_by None c e h = absurd (none-some c e)
made_by (Some d) c e h = (h.0, h.1, sym (same_Some d c e) ∙ h.2)

start_goes : (P : World) (entries : List Entry) (s : State) → run.run P entries ≡ Some s → Evolve [] s.cells
unfolding run.run run.start
start_goes P entries s e = channels_evolve P (run.start P) s entries e

pub channels_are_lawful : ((capacity : ℕ) (operations : List Operation) → IsLawful (operated (new_channel capacity) operations))
    → ((capacity : ℕ) (operations : List Operation) → IsFront (operated (new_channel capacity) operations).received (operated (new_channel capacity) operations).sent)
    → (P : World) (entries : List Entry) (s : State) (k : ℕ) (c : Channel) → run.run P entries ≡ Some s → channel_at s k ≡ Some c → IsLawful c × IsFront c.received c.sent
channels_are_lawful lawful front P entries s k c e at =
    let made = made_by (channel_of s.cells k) c at (start_goes P entries s e k) in
    (subst IsLawful (sym made.2) (lawful made.0 made.1), subst (λ (d : Channel). IsFront d.received d.sent) (sym made.2) (front made.0 made.1))

pub nothing_after : (P : World) (s : State) (e : Entry) → run.is_done (run.status_at s 0) ≡ true → run.after P e s ≡ None
unfolding run.after
nothing_after P s e done = ap (λ b. run.where_true (not b) (run.enters P e s)) done

behind : (o : Option State) (whole front back : State → Option State) → ((s : State) → whole s ≡ run.and_then (front s) back) → run.and_then o whole ≡ run.and_then (run.and_then o front) back
behind None whole front back h = refl
behind (Some s) whole front back h = h s

from_goes_on : (P : World) (first more : List Entry) (s : State) → run.run_from P s (first ++ more) ≡ run.and_then (run.run_from P s first) (λ s'. run.run_from P s' more)
from_goes_on P [] more s = refl
from_goes_on P (e ∷ es) more s =
    behind (run.after P e s) (λ s'. run.run_from P s' (es ++ more)) (λ s'. run.run_from P s' es) (λ s'. run.run_from P s' more) (from_goes_on P es more)

pub histories_go_on : (P : World) (first more : List Entry) (s : State) → run.run P first ≡ Some s → run.run P (first ++ more) ≡ run.run_from P s more
unfolding run.run
histories_go_on P first more s e = from_goes_on P first more (run.start P) ∙ ap (λ o. run.and_then o (λ s'. run.run_from P s' more)) e

-- ---- endings

raised_is_no_end : Raised ≡ Done → ⊥
raised_is_no_end e = cc

-- what is done is not still going
done_and_not : {A : Type 0} (s : State) (status : Status) → run.status_at s 0 ≡ status → run.is_done status ≡ true → run.is_done (run.status_at s 0) ≡ false → A
done_and_not s status e done going = absurd (both_ways (run.is_done (run.status_at s 0)) going (ap run.is_done e ∙ done))

pub one_ending : OneEnding
one_ending P budget entries s run.finished run.finished a b = refl
one_ending P budget entries s run.finished run.raised a b = absurd (raised_is_no_end (sym b ∙ a))
one_ending P budget entries s run.finished run.budget_spent a b = done_and_not s Done a refl b.0
one_ending P budget entries s run.finished run.deadlock a b = done_and_not s Done a refl b.0.0
one_ending P budget entries s run.raised run.finished a b = absurd (raised_is_no_end (sym a ∙ b))
one_ending P budget entries s run.raised run.raised a b = refl
one_ending P budget entries s run.raised run.budget_spent a b = done_and_not s Raised a refl b.0
one_ending P budget entries s run.raised run.deadlock a b = done_and_not s Raised a refl b.0.0
one_ending P budget entries s run.budget_spent run.finished a b = done_and_not s Done b refl a.0
one_ending P budget entries s run.budget_spent run.raised a b = done_and_not s Raised b refl a.0
one_ending P budget entries s run.budget_spent run.budget_spent a b = refl
one_ending P budget entries s run.budget_spent run.deadlock a b = absurd (b.1 a.1)
one_ending P budget entries s run.deadlock run.finished a b = done_and_not s Done b refl a.0.0
one_ending P budget entries s run.deadlock run.raised a b = done_and_not s Raised b refl a.0.0
one_ending P budget entries s run.deadlock run.budget_spent a b = absurd (a.1 b.1)
one_ending P budget entries s run.deadlock run.deadlock a b = refl

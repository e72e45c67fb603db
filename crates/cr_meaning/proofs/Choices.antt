-- Which clause a reduction of a `select` takes.
use Rattle.std.proofs.Common.{◌≡◌, ℕ, Bool, true, false, ◌==◌, ◌||◌, List, refl, sym, ap, ◌∙◌, inl, inr, Option, Some, None, length, slice_get, if◌then◌else◌}
use Rattle.std.specs.List.{list_any, list_all}
use Rattle.std.proofs.lemmas.Bool.{eqb-true}
use Rattle.std.proofs.lemmas.Option.{none-some}
use Rattle.cr_base.specs.declared.ids.NodeId.{NodeId}
use Rattle.cr_core.specs.declared.form.Form.TheVariants as f
use Rattle.cr_meaning.specs.World.{World}
use Rattle.cr_meaning.specs.Term.{Term, Terms, Node}
use Rattle.cr_meaning.specs.State.{Fiber, State}
use Rattle.cr_meaning.specs.Redex.{redex, part_at}
use Rattle.cr_meaning.specs.Act.{Act, Becomes, Jumps, Raises, Stuck, Blocked, BadChoice, Choice}
use Rattle.cr_meaning.specs.Channels as c
use Rattle.cr_meaning.specs.Channels.{Clause, clauses, is_ready}
use Rattle.cr_meaning.specs.Reduce as r
use Rattle.cr_meaning.specs.Reduce.{reduce}
use Rattle.cr_meaning.specs.Run.{new_state}
use Rattle.cr_meaning.specs.Histories.{TookOne}

-- where it goes on, this holds
abbrev pub Where_going : Act → Type 0 → Type 0
Where_going (Becomes s t) A = A
Where_going (Jumps e) A = A
Where_going (Raises thrown) A = A
Where_going Stuck A = Unit {0}
Where_going Blocked A = Unit {0}
Where_going BadChoice A = Unit {0}

holds : (a : Act) (A : Type 0) → A → Where_going a A
holds (Becomes s t) A h = h
holds (Jumps e) A h = h
holds (Raises thrown) A h = h
holds Stuck A h = tt
holds Blocked A h = tt
holds BadChoice A h = tt

if_holds : (b : Bool) (a o : Act) (A : Type 0) → (b ≡ true → Where_going a A) → Where_going o A → Where_going (if b then a else o) A
if_holds true a o A h g = h refl
if_holds false a o A h g = g

module _ (P : World) (s : State) (i : ℕ) (choice : Choice) (otherwise : Bool) (cs : List Clause) (t : Term) where
  abbrev Took : Type 0
  Took = TookOne P s i choice otherwise cs

  otherwise_takes : (n : ℕ) → choice.clause ≡ Some n → n ≡ length cs → (o ready : Bool) → otherwise ≡ o → list_any (is_ready P s i) cs ≡ ready → Where_going (c.takes_otherwise s choice o ready t) Took
  otherwise_takes n e at true false is none =
      holds (c.without_partner choice (Becomes s t)) Took (record { number = n; chosen = e; taken = inr (is, at, none) })
  otherwise_takes n e at true true is none = tt
  otherwise_takes n e at false ready is none = tt

  by_takes : (n : ℕ) → choice.clause ≡ Some n → (clause : Option Clause) → slice_get cs n ≡ clause
      → Where_going (c.chooses_by P s i choice otherwise (list_any (is_ready P s i) cs) n (length cs) t clause) Took
  by_takes n e (Some clause) at =
      if_holds (is_ready P s i clause) (c.takes_at P s i choice clause (c.cell_of clause.on)) BadChoice Took
      (λ ready. holds (c.takes_at P s i choice clause (c.cell_of clause.on)) Took (record { number = n; chosen = e; taken = inl (clause, at, ready) })) tt
  by_takes n e None at =
      if_holds (n == length cs) (c.takes_otherwise s choice otherwise (list_any (is_ready P s i) cs) t) BadChoice Took
      (λ same. otherwise_takes n e (eqb-true n (length cs) same) otherwise (list_any (is_ready P s i) cs) refl refl) tt

  chooses_take : (n : Option ℕ) → choice.clause ≡ n → Where_going (c.chooses P s i choice otherwise (list_any (is_ready P s i) cs) cs t n) Took
  chooses_take None e = tt
  chooses_take (Some n) e = by_takes n e (slice_get cs n) refl

  pub selects_take : Where_going (c.selects P s i choice otherwise cs t) Took
  selects_take =
      let ready = list_any (is_ready P s i) cs in
      if_holds (list_all (λ (clause : Clause). c.has_channel s (c.cell_of clause.on)) cs) (c.selects_among P s i choice otherwise ready cs t) Stuck Took
      (λ all. if_holds (otherwise || ready) (c.chooses P s i choice otherwise ready cs t choice.clause) Blocked Took (λ some. chooses_take choice.clause refl) tt) tt

with_choice_holds : (choice : Choice) (cs : List Clause) (a : Act) (A : Type 0) → Where_going a A → Where_going (r.with_choice choice (c.at_select cs) a) A
with_choice_holds choice cs Stuck A h = h
with_choice_holds choice cs Blocked A h = h
with_choice_holds choice cs (Becomes s t) A h = h
with_choice_holds choice cs (Jumps e) A h = h
with_choice_holds choice cs (Raises thrown) A h = h
with_choice_holds choice cs BadChoice A h = h

going : (s s' : State) (i : ℕ) (fiber : Fiber) (a : Act) (A : Type 0) → new_state (r.reduced_by s i fiber a) ≡ Some s' → Where_going a A → A
going s s' i fiber (Becomes u t) A e h = h
going s s' i fiber (Jumps exit) A e h = h
going s s' i fiber (Raises thrown) A e h = h
going s s' i fiber Stuck A e h = absurd (none-some s' e)
going s s' i fiber Blocked A e h = absurd (none-some s' e)
going s s' i fiber BadChoice A e h = absurd (none-some s' e)

pub selects_take_one : (P : World) (s s' : State) (i : ℕ) (choice : Choice) (fiber : Fiber) (n : NodeId) (otherwise : Bool) (ps : Terms)
    → slice_get s.fibers i ≡ Some fiber → redex fiber.term ≡ Some (Node n (f.Select otherwise) ps) → new_state (reduce P s i choice) ≡ Some s'
    → TookOne P s i choice otherwise (clauses ps)
unfolding reduce
selects_take_one P s s' i choice fiber n otherwise ps at is e =
    let there = ap (λ o. new_state (r.reduced_of P s i choice o)) (sym at) in
    let here = ap (λ o. new_state (r.reduced_at P s i fiber choice o)) (sym is) in
    going s s' i fiber (r.with_choice choice (c.at_select (clauses ps)) (c.selects P s i choice otherwise (clauses ps) (part_at (length (clauses ps)) ps)))
    (TookOne P s i choice otherwise (clauses ps)) (here ∙ there ∙ e)
    (with_choice_holds choice (clauses ps) (c.selects P s i choice otherwise (clauses ps) (part_at (length (clauses ps)) ps)) (TookOne P s i choice otherwise (clauses ps))
    (selects_take P s i choice otherwise (clauses ps) (part_at (length (clauses ps)) ps)))

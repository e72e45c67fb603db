-- Who is met: where a partner is among those that can be met, it waits at what is named.
use Rattle.std.proofs.Common.{◌≡◌, ◌⊎◌, inl, inr, ℕ, zero, suc, ◌+◌, ◌==◌, ◌&&◌, Bool, true, false, List, [], ◌∷◌, ◌++◌, refl, sym, ap, subst, ◌∙◌, Option, Some, None, slice_get, if◌then◌else◌, arith}
use Rattle.std.specs.List.{list_any}
use Rattle.std.proofs.lemmas.Bool.{eqb-true, eq-eqb, both_ways, and_parts, or_cases, true≢false}
use Rattle.std.proofs.lemmas.List.Folds.{list_any-append}
use Rattle.cr_meaning.specs.World.{World}
use Rattle.cr_meaning.specs.Term.{Term}
use Rattle.cr_meaning.specs.State.{Fiber, Status, Ready, Current, Waiting, Done, Raised, State}
use Rattle.cr_meaning.specs.Redex.{redex}
use Rattle.cr_meaning.specs.Act.{Choice}
use Rattle.cr_meaning.specs.Channels as c
use Rattle.cr_meaning.specs.Channels.{Clause, Does, Sends, Receives, Waits_at, at_receive, at_select, elsewhere, Wanted, a_send, a_receive, Partner, is_partner}

-- an empty list of them has none
abbrev pub none_met : {A : Type 0} → false ≡ true → A
none_met e = absurd (true≢false (sym e))

any_split : {X : Type 0} (p : X → Bool) (xs ys : List X) → list_any p (xs ++ ys) ≡ true → (list_any p xs ≡ true) ⊎ (list_any p ys ≡ true)
any_split p xs ys e = or_cases (list_any p xs) (list_any p ys) (sym (list_any-append p xs ys) ∙ e)

same_numbers : (a b : Option ℕ) → c.same_number a b ≡ true → a ≡ b
same_numbers None None e = refl
same_numbers None (Some n) e = none_met e
same_numbers (Some m) None e = none_met e
same_numbers (Some m) (Some n) e = ap Some (eqb-true m n e)

pub same_cells : (k : ℕ) (o : Option ℕ) → c.is_cell k o ≡ true → o ≡ Some k
same_cells k None e = none_met e
same_cells k (Some j) e = ap Some (sym (eqb-true k j e))

-- the choice names this partner and this clause of it
pub record Names (choice : Choice) (p : ℕ) (number : Option ℕ) : Type 0 where
  pub the_partner : choice.partner ≡ Some p
  pub the_number : choice.partner_clause ≡ number

names : (choice : Choice) (p : Partner) → is_partner choice p ≡ true → Names choice p.fiber p.clause
names choice p e =
    let both = and_parts (c.same_number choice.partner (Some p.fiber)) (c.same_number choice.partner_clause p.clause) e in
    record { the_partner = same_numbers choice.partner (Some p.fiber) both.0; the_number = same_numbers choice.partner_clause p.clause both.1 }

-- ---- among clauses

pub record NamedClause (choice : Choice) (wanted : Wanted) (k p first : ℕ) (cs : List Clause) : Type 0 where
  pub place : ℕ
  pub number : ℕ
  pub clause : Clause
  pub counted : number ≡ first + place
  pub at : slice_get cs place ≡ Some clause
  pub does : c.is_wanted wanted clause.does ≡ true
  pub on : c.cell_of clause.on ≡ Some k
  pub named : Names choice p (Some number)

clause_behind : (choice : Choice) (wanted : Wanted) (k p n : ℕ) (clause : Clause) (cs : List Clause) → NamedClause choice wanted k p (n + 1) cs → NamedClause choice wanted k p n (clause ∷ cs)
clause_behind choice wanted k p n clause cs it =
    let counted = it.counted in
    record { place = suc it.place; number = it.number; clause = it.clause; counted = omega (arith, counted); at = it.at; does = it.does; on = it.on; named = it.named }

clause_here : (choice : Choice) (wanted : Wanted) (k p n : ℕ) (clause : Clause) (cs : List Clause) (b : Bool)
    → (c.is_wanted wanted clause.does && c.is_cell k (c.cell_of clause.on)) ≡ b
    → list_any (is_partner choice) (if b then record { fiber = p; clause = Some n } ∷ c.meeting_clauses wanted k p (n + 1) cs else c.meeting_clauses wanted k p (n + 1) cs) ≡ true
    → (list_any (is_partner choice) (c.meeting_clauses wanted k p (n + 1) cs) ≡ true → NamedClause choice wanted k p n (clause ∷ cs))
    → NamedClause choice wanted k p n (clause ∷ cs)
clause_here choice wanted k p n clause cs false e h later = later h
clause_here choice wanted k p n clause cs true e h later =
    elim (or_cases (is_partner choice (record { fiber = p; clause = Some n })) (list_any (is_partner choice) (c.meeting_clauses wanted k p (n + 1) cs)) h) [
      | inl this ↦
          let both = and_parts (c.is_wanted wanted clause.does) (c.is_cell k (c.cell_of clause.on)) e in
          record { place = zero; number = n; clause = clause; counted = omega arith; at = refl; does = both.0; on = same_cells k (c.cell_of clause.on) both.1; named = names choice (record { fiber = p; clause = Some n }) this }
      | inr rest ↦ later rest
    ]

named_clause : (choice : Choice) (wanted : Wanted) (k p n : ℕ) (cs : List Clause) → list_any (is_partner choice) (c.meeting_clauses wanted k p n cs) ≡ true → NamedClause choice wanted k p n cs
named_clause choice wanted k p n [] e = none_met e
named_clause choice wanted k p n (clause ∷ cs) e =
    clause_here choice wanted k p n clause cs (c.is_wanted wanted clause.does && c.is_cell k (c.cell_of clause.on)) refl e
    (λ rest. clause_behind choice wanted k p n clause cs (named_clause choice wanted k p (n + 1) cs rest))

-- ---- by what a fiber waits at

pub record Plain (choice : Choice) (wanted : Wanted) (k p : ℕ) (at : Waits_at) : Type 0 where
  pub does : wanted ≡ a_receive
  pub waits : at ≡ at_receive k
  pub named : Names choice p None

pub record Chosen (choice : Choice) (wanted : Wanted) (k p : ℕ) (at : Waits_at) : Type 0 where
  pub clauses : List Clause
  pub number : ℕ
  pub clause : Clause
  pub waits : at ≡ at_select clauses
  pub there : slice_get clauses number ≡ Some clause
  pub does : c.is_wanted wanted clause.does ≡ true
  pub on : c.cell_of clause.on ≡ Some k
  pub named : Names choice p (Some number)

abbrev pub Awaits : Choice → Wanted → ℕ → ℕ → Waits_at → Type 0
Awaits choice wanted k p at = Plain choice wanted k p at ⊎ Chosen choice wanted k p at

plain_awaits : (choice : Choice) (k p j : ℕ) (b : Bool) → (k == j) ≡ b → list_any (is_partner choice) (if b then record { fiber = p; clause = None } ∷ [] else []) ≡ true → Awaits choice a_receive k p (at_receive j)
plain_awaits choice k p j false e h = none_met h
plain_awaits choice k p j true e h =
    elim (or_cases (is_partner choice (record { fiber = p; clause = None })) false h) [
      | inl this ↦ inl (record { does = refl; waits = ap at_receive (sym (eqb-true k j e)); named = names choice (record { fiber = p; clause = None }) this })
      | inr none ↦ none_met none
    ]

choice_awaits : (choice : Choice) (wanted : Wanted) (k p : ℕ) (cs : List Clause) → list_any (is_partner choice) (c.meeting_clauses wanted k p 0 cs) ≡ true → Awaits choice wanted k p (at_select cs)
choice_awaits choice wanted k p cs e =
    let it = named_clause choice wanted k p 0 cs e in
    let counted = it.counted in
    let same : it.place ≡ it.number = omega (arith, counted) in
    inr (record { clauses = cs; number = it.number; clause = it.clause; waits = refl; there = subst (λ m. slice_get cs m ≡ Some it.clause) same it.at; does = it.does; on = it.on; named = it.named })

awaits : (choice : Choice) (wanted : Wanted) (k p : ℕ) (at : Waits_at) → list_any (is_partner choice) (c.meetings_by wanted k p at) ≡ true → Awaits choice wanted k p at
awaits choice a_receive k p (at_receive j) e = plain_awaits choice k p j (k == j) refl e
awaits choice a_send k p (at_receive j) e = none_met e
awaits choice a_receive k p (at_select cs) e = choice_awaits choice a_receive k p cs e
awaits choice a_send k p (at_select cs) e = choice_awaits choice a_send k p cs e
awaits choice a_receive k p elsewhere e = none_met e
awaits choice a_send k p elsewhere e = none_met e

-- ---- among fibers

pub record Found (P : World) (s : State) (i : ℕ) (choice : Choice) (wanted : Wanted) (k first : ℕ) (fibers : List Fiber) : Type 0 where
  pub place : ℕ
  pub number : ℕ
  pub fiber : Fiber
  pub counted : number ≡ first + place
  pub at : slice_get fibers place ≡ Some fiber
  pub another : i ≡ number → ⊥
  pub awaits : Awaits choice wanted k number (c.waits_at P s fiber)

module _ (P : World) (s : State) (i : ℕ) (choice : Choice) (wanted : Wanted) (k : ℕ) where
  found_behind : (q : ℕ) (fiber : Fiber) (fibers : List Fiber) → Found P s i choice wanted k (q + 1) fibers → Found P s i choice wanted k q (fiber ∷ fibers)
  found_behind q fiber fibers it =
      let counted = it.counted in
      record { place = suc it.place; number = it.number; fiber = it.fiber; counted = omega (arith, counted); at = it.at; another = it.another; awaits = it.awaits }

  found_here : (q : ℕ) (fiber : Fiber) (fibers : List Fiber) (b : Bool) → (i == q) ≡ b
      → list_any (is_partner choice) (if b then [] else c.meetings_by wanted k q (c.waits_at P s fiber)) ≡ true → Found P s i choice wanted k q (fiber ∷ fibers)
  found_here q fiber fibers true e h = none_met h
  found_here q fiber fibers false e h =
      record { place = zero; number = q; fiber = fiber; counted = omega arith; at = refl; another = λ same. both_ways (i == q) e (eq-eqb i q same); awaits = awaits choice wanted k q (c.waits_at P s fiber) h }

  found : (q : ℕ) (fibers : List Fiber) → list_any (is_partner choice) (c.meetings_from P s wanted k i q fibers) ≡ true → Found P s i choice wanted k q fibers
  found q [] e = none_met e
  found q (fiber ∷ fibers) e =
      elim (any_split (is_partner choice) (if i == q then [] else c.meetings_by wanted k q (c.waits_at P s fiber)) (c.meetings_from P s wanted k i (q + 1) fibers) e) [
        | inl this ↦ found_here q fiber fibers (i == q) refl this
        | inr later ↦ found_behind q fiber fibers (found (q + 1) fibers later)
      ]

-- the partner, and what it waits at
pub record IsPartner (P : World) (s : State) (i : ℕ) (choice : Choice) (wanted : Wanted) (k : ℕ) : Type 0 where
  pub number : ℕ
  pub fiber : Fiber
  pub at : slice_get s.fibers number ≡ Some fiber
  pub another : i ≡ number → ⊥
  pub awaits : Awaits choice wanted k number (c.waits_at P s fiber)

pub partner_found : (P : World) (s : State) (i : ℕ) (choice : Choice) (wanted : Wanted) (k : ℕ) → list_any (is_partner choice) (c.meetings P s wanted k i) ≡ true → IsPartner P s i choice wanted k
partner_found P s i choice wanted k e =
    let it = found P s i choice wanted k 0 s.fibers e in
    let counted = it.counted in
    let same : it.place ≡ it.number = omega (arith, counted) in
    record { number = it.number; fiber = it.fiber; at = subst (λ m. slice_get s.fibers m ≡ Some it.fiber) same it.at; another = it.another; awaits = it.awaits }

-- ---- it waits

abbrev Somewhere : Waits_at → Type 0
Somewhere (at_receive k) = Unit {0}
Somewhere (at_select cs) = Unit {0}
Somewhere elsewhere = ⊥

waiting_by : (P : World) (s : State) (status : Status) (t : Option Term) → Somewhere (c.waits_by P s status t) → status ≡ Waiting
waiting_by P s Waiting t h = refl
waiting_by P s Ready t h = absurd h
waiting_by P s Current t h = absurd h
waiting_by P s Done t h = absurd h
waiting_by P s Raised t h = absurd h

awaits_somewhere : (choice : Choice) (wanted : Wanted) (k p : ℕ) (at : Waits_at) → Awaits choice wanted k p at → Somewhere at
awaits_somewhere choice wanted k p at (inl plain) = subst Somewhere (sym plain.waits) tt
awaits_somewhere choice wanted k p at (inr chosen) = subst Somewhere (sym chosen.waits) tt

pub is_waiting : (P : World) (s : State) (choice : Choice) (wanted : Wanted) (k p : ℕ) (fiber : Fiber) → Awaits choice wanted k p (c.waits_at P s fiber) → fiber.status ≡ Waiting
is_waiting P s choice wanted k p fiber h = waiting_by P s fiber.status (redex fiber.term) (awaits_somewhere choice wanted k p (c.waits_at P s fiber) h)

-- A node that is ready, as the table of redexes sees it: the values that it has, and the parts behind them as they stand.
use Rattle.std.proofs.Common.{◌≡◌, ℕ, zero, suc, ◌+◌, ◌-◌, ◌≤◌, List, [], ◌∷◌, length, Some, refl, sym, ap, ◌∙◌, arith, length-drop}
use Rattle.std.specs.Prelude.{slice_get, drop}
use Rattle.cr_base.specs.declared.ids.NodeId.{NodeId}
use Rattle.cr_value.specs.declared.value.Value.{Value}
use Rattle.cr_core.specs.declared.row.Row.{Row}
use Rattle.cr_core.specs.Shape.{Role}
use Rattle.cr_meaning.specs.World.{World}
use Rattle.cr_meaning.specs.State as m
use Rattle.cr_meaning.specs.Act.{Choice}
use Rattle.cr_meaning.specs.Term.{Term, Terms, none, part, terms_by, tree}
use Rattle.cr_meaning.specs.Redex.{skipped, last_reduced, count, part_at}
use Rattle.cr_meaning.specs.Reduce.{values_among, values, acts, act}
use Rattle.cr_stack.specs.Layers.{join, all_values, given, behind, place, ready, ready_by}
use Rattle.cr_stack.specs.Neat.{until, HasAll}
use Rattle.cr_steps.specs.Step.{parts_of}

-- ---- how many parts there are

count_join : (ts us : Terms) → count (join ts us) ≡ count ts + count us
count_join none us = omega arith
count_join (part t ts) us = omega (arith, count_join ts us)

count_values : (vs : List Value) → count (all_values vs) ≡ length vs
count_values [] = refl
count_values (v ∷ vs) = omega (arith, count_values vs)

count_terms : (g : NodeId → Term) (ns : List NodeId) → count (terms_by g ns) ≡ length ns
count_terms g [] = refl
count_terms g (n ∷ ns) = omega (arith, count_terms g ns)

module _ (P : World) where
  count_given : (k : ℕ) (ns : List NodeId) (vs : List Value) → k ≤ length ns → count (given P k ns vs) ≡ k + length vs
  count_given zero ns vs le = omega (arith, count_values vs)
  count_given (suc k) [] vs le = absurd (omega arith)
  count_given (suc k) (n ∷ ns) vs le = omega (arith, count_given k ns vs (omega arith))

  count_parts : (k : ℕ) (ns : List NodeId) (vs : List Value) → k + length vs ≤ length ns → count (join (given P k ns vs) (behind P (k + length vs) ns)) ≡ length ns
  count_parts k ns vs le =
      omega (arith, count_join (given P k ns vs) (behind P (k + length vs) ns), count_given k ns vs (omega arith), count_terms (tree P) (drop (k + length vs) ns), length-drop (k + length vs) ns)

  -- ---- the values

  values_all : (until : ℕ) (vs : List Value) (us : Terms) → length vs ≡ until → values_among zero until (join (all_values vs) us) ≡ vs
  values_all zero [] none e = refl
  values_all zero [] (part u us) e = refl
  values_all (suc until) [] us e = absurd (omega arith)
  values_all zero (v ∷ vs) us e = absurd (omega arith)
  values_all (suc until) (v ∷ vs) us e = ap (λ ws. v ∷ ws) (values_all until vs us (omega arith))

  values_given : (k until : ℕ) (ns : List NodeId) (vs : List Value) (us : Terms) → k ≤ length ns → k + length vs ≡ until → values_among k until (join (given P k ns vs) us) ≡ vs
  values_given zero until ns vs us le e = values_all until vs us (omega arith)
  values_given (suc k) zero ns vs us le e = absurd (omega arith)
  values_given (suc k) (suc until) [] vs us le e = absurd (omega arith)
  values_given (suc k) (suc until) (n ∷ ns) vs us le e = values_given k until ns vs us (omega arith) (omega arith)

  within : (r : Row) (vs : List Value) → place r vs ≡ until r → until r ≤ length r.parts → skipped r.form + length vs ≤ length r.parts
  within r vs all there = omega (arith, all, there)

  pub values_ready : (r : Row) (vs : List Value) → place r vs ≡ until r → until r ≤ length r.parts → values r.form (parts_of P r vs) ≡ vs
  values_ready r vs all there =
      let few = within r vs all there in
      ap (λ k. values_among (skipped r.form) (last_reduced r.form k) (parts_of P r vs)) (count_parts (skipped r.form) r.parts vs few)
      ∙ values_given (skipped r.form) (until r) r.parts vs (behind P (place r vs) r.parts) (omega (arith, few)) all

  -- What a ready node comes to is the line of its form, with these values.
  pub acts_ready : (s : m.State) (i : ℕ) (fiber : m.Fiber) (choice : Choice) (n : NodeId) (vs : List Value) (k : Role) (h : HasAll P.rows n vs k) → act P s i fiber choice (ready P n vs) ≡ acts P s i fiber choice h.at.row.form (parts_of P h.at.row vs) vs
  acts_ready s i fiber choice n vs k h =
      ap (λ o. act P s i fiber choice (ready_by P n vs o)) h.at.stands
      ∙ ap (acts P s i fiber choice h.at.row.form (parts_of P h.at.row vs)) (values_ready h.at.row vs h.all h.there)

  -- ---- a part behind them

  part_join : (ts us : Terms) (i k : ℕ) → i ≡ count ts + k → part_at i (join ts us) ≡ part_at k us
  part_join none us i k e = let s : i ≡ k = omega (arith, e) in ap (λ j. part_at j us) s
  part_join (part t ts) us zero k e = absurd (omega (arith, e))
  part_join (part t ts) us (suc i) k e = part_join ts us i k (omega (arith, e))

  part_terms : (ns : List NodeId) (k : ℕ) (n : NodeId) → slice_get ns k ≡ Some n → part_at k (terms_by (tree P) ns) ≡ tree P n
  part_terms [] k n e = absurd (cc)
  part_terms (p ∷ ns) zero n e = let s : p ≡ n = cc in ap (tree P) s
  part_terms (p ∷ ns) (suc k) n e = part_terms ns k n e

  drop_get : (ns : List NodeId) (k i j : ℕ) (n : NodeId) → i ≡ k + j → slice_get ns i ≡ Some n → slice_get (drop k ns) j ≡ Some n
  drop_get ns zero i j n s e = let t : i ≡ j = omega (arith, s) in ap (slice_get ns) (sym t) ∙ e
  drop_get [] (suc k) i j n s e = absurd (cc)
  drop_get (p ∷ ns) (suc k) zero j n s e = absurd (omega (arith, s))
  drop_get (p ∷ ns) (suc k) (suc i) j n s e = drop_get ns k i j n (omega (arith, s)) e

  -- the part at a place behind the values
  pub part_behind : (r : Row) (vs : List Value) (i : ℕ) (n : NodeId) → place r vs ≤ length r.parts → place r vs ≤ i → slice_get r.parts i ≡ Some n → part_at i (parts_of P r vs) ≡ tree P n
  part_behind r vs i n few behind_values e =
      let given_are : count (given P (skipped r.form) r.parts vs) ≡ place r vs = count_given (skipped r.form) r.parts vs (omega (arith, few)) in
      let so_far : i ≡ place r vs + (i - place r vs) = omega (arith, behind_values) in
      part_join (given P (skipped r.form) r.parts vs) (behind P (place r vs) r.parts) i (i - place r vs) (so_far ∙ ap (λ k. k + (i - place r vs)) (sym given_are))
      ∙ part_terms (drop (place r vs) r.parts) (i - place r vs) n (drop_get r.parts (place r vs) i (i - place r vs) n so_far e)

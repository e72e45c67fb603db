-- Single exits of an evaluation.
use Rattle.std.proofs.Common.{◌≡◌, ◌<◌, ◌≤◌, ℕ, zero, suc, ◌⊎◌, inl, inr, ⊎_elim, Bool, true, false, List, [], ◌∷◌, Option, Some, None, refl, sym, ◌∙◌, subst, arith}
use Rattle.std.specs.Prelude.{if◌then◌else◌, ◌||◌, map, slice_get, nat_lt}
use Rattle.std.proofs.lemmas.Bool.Decides.{nat_tests}
use Rattle.cr_base.specs.declared.ids.NodeId.{NodeId}
use Rattle.cr_core.specs.declared.form.Form.{Form}
use Rattle.cr_core.specs.declared.form.ScopeId.{ScopeId}
use Rattle.cr_core.specs.Arena.{Opening, Opens, Turns, Plain, opening}
use Rattle.cr_flow.specs.declared.variable.Outcome.{Outcome}
use Rattle.cr_flow.specs.declared.variable.Outcome.TheVariants.{Yes, No}
use Rattle.cr_flow.specs.declared.outs.Outs.{Outs}
use Rattle.cr_flow.specs.Outs.{least, none, join, also, goes_on, jumps, either, stopped, caught_by, caught, chain}

-- a use of at most this rank was come to
abbrev pub within : ℕ → Option ℕ → Bool
within k None = false
within k (Some v) = nat_lt v (suc k)

pub data Exit : Type 0 where
  Found : ℕ → Exit
  Ends : Outcome → Exit
  Leaves : Exit
  Skips : Exit
  Returns : Exit

abbrev pub has : Outs → Exit → Bool
has o (Found k) = within k o.found
has o (Ends Yes) = o.yes
has o (Ends No) = o.no
has o Leaves = o.leaves
has o Skips = o.skips
has o Returns = o.returns

abbrev pub Has : Outs → Exit → Type 0
Has o z = has o z ≡ true

abbrev pub IsJump : Exit → Type 0
IsJump (Ends e) = ⊥
IsJump z = Unit {0}

pub or_left : (a b : Bool) → a ≡ true → (a || b) ≡ true
or_left true b e = refl
or_left false b e = absurd (cc)

pub or_right : (a b : Bool) → b ≡ true → (a || b) ≡ true
or_right true b e = refl
or_right false b e = e

pub or_from : (a b : Bool) → (a || b) ≡ true → (a ≡ true) ⊎ (b ≡ true)
or_from true b e = inl refl
or_from false b e = inr e

-- ranks
lower_cases : (a b k : ℕ) (v p q : Bool) → nat_lt a b ≡ v → nat_lt a (suc k) ≡ p → nat_lt b (suc k) ≡ q → nat_lt (if v then a else b) (suc k) ≡ (p || q)
lower_cases a b k true true q e g h = g
lower_cases a b k true false true e g h = absurd (grind (arith, nat_tests))
lower_cases a b k true false false e g h = g
lower_cases a b k false true true e g h = h
lower_cases a b k false true false e g h = absurd (grind (arith, nat_tests))
lower_cases a b k false false q e g h = h

or_none : (v : Bool) → v ≡ (v || false)
or_none true = refl
or_none false = refl

within_least : (k : ℕ) (a b : Option ℕ) → within k (least a b) ≡ (within k a || within k b)
within_least k None b = refl
within_least k (Some a) None = or_none (nat_lt a (suc k))
within_least k (Some a) (Some b) = lower_cases a b k (nat_lt a b) (nat_lt a (suc k)) (nat_lt b (suc k)) refl refl refl

pub within_own : (k : ℕ) → within k (Some k) ≡ true
within_own k = grind (arith, nat_tests)

pub within_off : (j v : ℕ) → j < v → within j (Some v) ≡ false
within_off j v lt = grind (arith, nat_tests)

pub within_on : (k v : ℕ) → within k (Some v) ≡ true → v ≤ k
within_on k v e = grind (arith, nat_tests)

-- joins
has_join : (a b : Outs) (z : Exit) → has (join a b) z ≡ (has a z || has b z)
has_join a b (Found k) = within_least k a.found b.found
has_join a b (Ends Yes) = refl
has_join a b (Ends No) = refl
has_join a b Leaves = refl
has_join a b Skips = refl
has_join a b Returns = refl

pub in_left : (a b : Outs) (z : Exit) → Has a z → Has (join a b) z
in_left a b z h = has_join a b z ∙ or_left (has a z) (has b z) h

pub in_right : (a b : Outs) (z : Exit) → Has b z → Has (join a b) z
in_right a b z h = has_join a b z ∙ or_right (has a z) (has b z) h

pub from_join : (a b : Outs) (z : Exit) → Has (join a b) z → Has a z ⊎ Has b z
from_join a b z h = or_from (has a z) (has b z) (sym (has_join a b z) ∙ h)

pub no_none : (z : Exit) → Has none z → ⊥
no_none (Found k) h = cc
no_none (Ends Yes) h = cc
no_none (Ends No) h = cc
no_none Leaves h = cc
no_none Skips h = cc
no_none Returns h = cc

pub in_also : (b : Bool) (a o : Outs) (z : Exit) → Has a z → Has (also b a o) z
in_also true a o z h = in_left a o z h
in_also false a o z h = h

pub in_also_new : (b : Bool) (a o : Outs) (z : Exit) → b ≡ true → Has o z → Has (also b a o) z
in_also_new true a o z e h = in_right a o z h
in_also_new false a o z e h = absurd (cc)

pub from_also : (b : Bool) (a o : Outs) (z : Exit) → Has (also b a o) z → Has a z ⊎ ((b ≡ true) × Has o z)
from_also true a o z h = ⊎_elim (λ (l : Has a z). inl l) (λ (r : Has o z). inr (refl, r)) (from_join a o z h)
from_also false a o z h = inl h

-- jumps
pub in_jumps : (o : Outs) (z : Exit) → IsJump z → Has o z → Has (jumps o) z
in_jumps o (Found k) j h = h
in_jumps o (Ends e) j h = absurd j
in_jumps o Leaves j h = h
in_jumps o Skips j h = h
in_jumps o Returns j h = h

pub from_jumps : (o : Outs) (z : Exit) → Has (jumps o) z → IsJump z × Has o z
from_jumps o (Found k) h = (tt, h)
from_jumps o (Ends Yes) h = absurd (cc)
from_jumps o (Ends No) h = absurd (cc)
from_jumps o Leaves h = (tt, h)
from_jumps o Skips h = (tt, h)
from_jumps o Returns h = (tt, h)

-- ends
pub ends_on : (o : Outs) (e : Outcome) → Has o (Ends e) → goes_on o ≡ true
ends_on o Yes h = or_left o.yes o.no h
ends_on o No h = or_right o.yes o.no h

pub on_ends : (o : Outs) → goes_on o ≡ true → (e : Outcome) × Has o (Ends e)
on_ends o h = ⊎_elim (λ (l : o.yes ≡ true). (Yes, l)) (λ (r : o.no ≡ true). (No, r)) (or_from o.yes o.no h)

pub in_either : (o : Outs) (z : Exit) → Has o z → Has (either o) z
in_either o (Found k) h = h
in_either o (Ends Yes) h = or_left o.yes o.no h
in_either o (Ends No) h = or_right o.yes o.no h
in_either o Leaves h = h
in_either o Skips h = h
in_either o Returns h = h

pub both_either : (o : Outs) (e : Outcome) → goes_on o ≡ true → Has (either o) (Ends e)
both_either o Yes h = h
both_either o No h = h

pub from_either : (o : Outs) (z : Exit) → Has (either o) z → (IsJump z × Has o z) ⊎ ((g : Outcome) × (e : Outcome) × (z ≡ Ends g) × Has o (Ends e))
from_either o (Found k) h = inl (tt, h)
from_either o (Ends Yes) h = let e = on_ends o h in inr (Yes, e.0, refl, e.1)
from_either o (Ends No) h = let e = on_ends o h in inr (No, e.0, refl, e.1)
from_either o Leaves h = inl (tt, h)
from_either o Skips h = inl (tt, h)
from_either o Returns h = inl (tt, h)

-- what a loop and a scope leave
ends_by : (k : Opening) (o : Outs) (e : Outcome) → Has o (Ends e) → Has (caught_by k o) (Ends e)
ends_by (Opens scope) o Yes h = or_left o.yes o.skips h
ends_by (Opens scope) o No h = or_left o.no o.skips h
ends_by Turns o Yes h = or_left o.yes o.leaves h
ends_by Turns o No h = or_left o.no o.leaves h
ends_by Plain o e h = h

pub caught_ends : (form : Form) (o : Outs) (e : Outcome) → Has o (Ends e) → Has (caught form o) (Ends e)
caught_ends form o e h = ends_by (opening form) o e h

returns_by : (k : Opening) (o : Outs) → Has o Returns → Has (caught_by k o) Returns
returns_by (Opens scope) o h = h
returns_by Turns o h = h
returns_by Plain o h = h

pub caught_returns : (form : Form) (o : Outs) → Has o Returns → Has (caught form o) Returns
caught_returns form o h = returns_by (opening form) o h

found_by : (k : Opening) (o : Outs) (j : ℕ) → Has o (Found j) → Has (caught_by k o) (Found j)
found_by (Opens scope) o j h = h
found_by Turns o j h = h
found_by Plain o j h = h

pub caught_found : (j : ℕ) (form : Form) (o : Outs) → Has o (Found j) → Has (caught form o) (Found j)
caught_found j form o h = found_by (opening form) o j h

-- what they catch
pub scope_stops : (k : Opening) (o : Outs) (e : Outcome) (scope : ScopeId) → k ≡ Opens scope → Has o Skips → Has (caught_by k o) (Ends e)
scope_stops (Opens j) o Yes scope s h = or_right o.yes o.skips h
scope_stops (Opens j) o No scope s h = or_right o.no o.skips h
scope_stops Turns o e scope s h = absurd (cc)
scope_stops Plain o e scope s h = absurd (cc)

pub loop_stops : (o : Outs) (e : Outcome) → Has o Leaves → Has (caught_by Turns o) (Ends e)
loop_stops o Yes h = or_right o.yes o.leaves h
loop_stops o No h = or_right o.no o.leaves h

-- chains
pub chain_keeps : (all act : Outs) (os : List Outs) (z : Exit) → Has all z → Has (chain all act os) z
chain_keeps all act [] z h = in_left all act z h
chain_keeps all act (o ∷ os) z h = by (chain_keeps (join all (jumps o)) act os z (in_left all (jumps o) z h)) (goes_on o)
  where
    by : Has (chain (join all (jumps o)) act os) z → (b : Bool) → Has (if b then chain (join all (jumps o)) act os else join all (jumps o)) z
    by k true = k
    by k false = in_left all (jumps o) z h

further : (b : Bool) (p q : Outs) (z : Exit) → b ≡ true → Has p z → Has (if b then p else q) z
further true p q z e h = h
further false p q z e h = absurd (cc)

module _ (g : NodeId → Outs) where
  -- the jumps of an item are the chain's, where all before it end
  pub chain_jump : (all act : Outs) (hs : List NodeId) (i : ℕ) (c : NodeId) (z : Exit) → slice_get hs i ≡ Some c → ((j : ℕ) (d : NodeId) → j < i → slice_get hs j ≡ Some d → goes_on (g d) ≡ true) → IsJump z → Has (g c) z → Has (chain all act (map g hs)) z
  chain_jump all act [] i c z e on j h = absurd (cc)
  chain_jump all act (q ∷ hs) zero c z e on j h = let s : q ≡ c = cc in by (goes_on (g q)) (in_right all (jumps (g q)) z (in_jumps (g q) z j (subst (λ v. Has (g v) z) (sym s) h)))
    where
      by : (b : Bool) → Has (join all (jumps (g q))) z → Has (if b then chain (join all (jumps (g q))) act (map g hs) else join all (jumps (g q))) z
      by true k = chain_keeps (join all (jumps (g q))) act (map g hs) z k
      by false k = k
  chain_jump all act (q ∷ hs) (suc i) c z e on j h =
      further (goes_on (g q)) (chain (join all (jumps (g q))) act (map g hs)) (join all (jumps (g q))) z (on 0 q (omega arith) refl)
      (chain_jump (join all (jumps (g q))) act hs i c z e (λ m d lt w. on (suc m) d (omega (arith, lt)) w) j h)

  -- what the act leads to is the chain's, where all items end
  pub chain_acts : (all act : Outs) (hs : List NodeId) (z : Exit) → ((j : ℕ) (d : NodeId) → slice_get hs j ≡ Some d → goes_on (g d) ≡ true) → Has act z → Has (chain all act (map g hs)) z
  chain_acts all act [] z on h = in_right all act z h
  chain_acts all act (q ∷ hs) z on h =
      further (goes_on (g q)) (chain (join all (jumps (g q))) act (map g hs)) (join all (jumps (g q))) z (on 0 q refl)
      (chain_acts (join all (jumps (g q))) act hs z (λ m d w. on (suc m) d w) h)

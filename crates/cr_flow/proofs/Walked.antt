-- What is found is reached by a way without an assignment.
use Rattle.std.proofs.Common.{◌≡◌, ℕ, zero, suc, ◌+◌, ◌<◌, ◌≤◌, ◌⊎◌, inl, inr, ⊎_elim, Bool, true, false, List, [], ◌∷◌, length, Option, Some, None, refl, sym, ap, ◌∙◌, subst, arith}
use Rattle.std.specs.Prelude.{slice_get, map, if◌then◌else◌, ◌||◌, ◌==◌, option_map}
use Rattle.std.proofs.lemmas.Option.{slice_get_within, slice_get-map}
use Rattle.std.proofs.lemmas.Bool.{eq-eqb, eqb-true}
use Rattle.cr_base.specs.declared.ids.NodeId.{NodeId}
use Rattle.cr_core.specs.declared.form.Form.{Form}
use Rattle.cr_core.specs.declared.form.Form.TheVariants as f
use Rattle.cr_core.specs.declared.form.ScopeId.{ScopeId}
use Rattle.cr_core.specs.declared.row.Row.{Row}
use Rattle.cr_core.specs.declared.row.Within.{Within}
use Rattle.cr_core.specs.Arena.{node_id, Opening, Opens, Turns, Plain, opening, inside_opening}
use Rattle.cr_core.specs.Standing.{IsArena}
use Rattle.cr_flow.specs.declared.variable.Variable.{Variable}
use Rattle.cr_flow.specs.declared.variable.Outcome.{Outcome}
use Rattle.cr_flow.specs.declared.variable.Outcome.TheVariants.{Yes, No}
use Rattle.cr_flow.specs.declared.variable.Arm.{Arm}
use Rattle.cr_flow.specs.declared.variable.Arm.TheVariants.{Part, Give}
use Rattle.cr_flow.specs.declared.outs.Outs.{Outs}
use Rattle.cr_flow.specs.Control.{is_test, arm, keeps, ends, is_break, is_next, is_return, assigns, has_arm, is_clause, is_choice, runs_apart, heads, last}
use Rattle.cr_flow.specs.Ways as way
use Rattle.cr_flow.specs.Ways.{Point, Before, Acts, After, End, IsRow, IsHead, IsLast, IsArm, given, Step, leaves_scope, sets, sets_in, Way, IsSetOn, IsSetBefore}
use Rattle.cr_flow.specs.Outs.{none, ending, join, also, goes_on, reaches_end, jumps, either, stopped, caught_by, caught, act, beside, here, acted, decided, chain, at, at_in, backed, armed, tested, at_node, own_outs, clause_outs, clauses_outs, arms_outs, inner, reach}
use Rattle.cr_flow.proofs.Reaching.{reach_none, reach_test, reach_plain, reach_some, inner_test, inner_plain}
use Rattle.cr_flow.proofs.Parts.{forward, node_same, scope_same, not_both, IsChild, same_row, head_child, arm_child, there}
use Rattle.cr_flow.proofs.Visited.{IsBody, bool_cases, break_plain, next_plain}
use Rattle.cr_flow.proofs.Exits.{within, Exit, Found, Ends, Leaves, Skips, Returns, Has, IsJump, from_join, from_also, from_jumps, from_either, on_ends, or_from, no_none}

module _ (rows : List Row) (scope : ScopeId) (body : NodeId) (x : Variable) where
  -- a way on which nothing assigns the variable
  pub data Bare : Point → Point → Type 0 where
    stay : (p : Point) → Bare p p
    on : (p q r : Point) → Bare p q → sets rows scope body x q ≡ false → Step rows scope body q r → ¬ (leaves_scope body q r) → Bare p r

  abbrev Left : Point → Point → Type 0
  Left p r = (k : ℕ) × (w : Way rows scope body k p r) × ¬ (IsSetOn rows scope body x k p r w)

  -- steps of an assignment-free way, as a way
  ahead : (p q r : Point) → Step rows scope body p q → ¬ (leaves_scope body p q) → sets rows scope body x p ≡ false → Left q r → Left p r
  ahead p q r st inner s (k, w, n) = (suc k, (q, (st, inner), w), λ h. ⊎_elim (λ (e : sets rows scope body x p ≡ true). not_both (sets rows scope body x p) e s) n h)

  way_to : (p q r : Point) → Bare p q → Left q r → Left p r
  way_to p q r (stay v) w = w
  way_to p q r (on v m q2 b s st inner) w = way_to v m r b (ahead m q2 r st inner s w)

  pub bare_way : (p q : Point) → Bare p q → Left p q
  bare_way p q b = way_to p q q b (zero, refl, λ h. h)

module _ (rows : List Row) (arena : IsArena rows) (t : NodeId → Option ℕ) (x : Variable) (scope : ScopeId) (body : NodeId) (is_body : IsBody rows scope body) where
  abbrev T : NodeId → Outs
  T n = reach rows t x n

  abbrev B : Point → Point → Type 0
  B p q = Bare rows scope body x p q

  -- where the exits of n lead from p, with this loop and this scope around
  abbrev From : Point → NodeId → Option NodeId → ScopeId → Exit → Type 0
  From p n u k (Found j) = (s : NodeId) × (within j (t s) ≡ true) × B p (Acts s)
  From p n u k (Ends e) = B p (After n e)
  From p n u k Leaves = (w : NodeId) → u ≡ Some w → (e : Outcome) → B p (After w e)
  From p n u k Skips = u ≡ None → ((b : NodeId) (q : Row) → IsRow rows b q → opening q.form ≡ Opens k → (k.0 == scope.0) ≡ false → (e : Outcome) → B p (After b e)) × ((k.0 == scope.0) ≡ true → B p End)
  From p n u k Returns = B p End

  -- a jump is the same for the whole
  jump_from : (p : Point) (c n : NodeId) (u : Option NodeId) (k : ScopeId) (z : Exit) → IsJump z → From p c u k z → From p n u k z
  jump_from p c n u k (Found i) j h = h
  jump_from p c n u k (Ends e) j h = absurd j
  jump_from p c n u k Leaves j h = h
  jump_from p c n u k Skips j h = h
  jump_from p c n u k Returns j h = h

  -- what surrounds the parts of a row
  abbrev turn_of : NodeId → Row → Option NodeId
  turn_of n r = (inside_opening (opening r.form) n.0 r.within).turn

  abbrev scope_of : NodeId → Row → ScopeId
  scope_of n r = (inside_opening (opening r.form) n.0 r.within).scope

  -- a row at or behind the body opens another scope
  other_scope : (n : NodeId) (r : Row) (k : ScopeId) → IsRow rows n r → body.0 ≤ n.0 → opening r.form ≡ Opens k → (k.0 == scope.0) ≡ false
  other_scope n r k a low o = ⊎_elim (λ (e : (k.0 == scope.0) ≡ true). absurd (wrong e)) (λ (e : (k.0 == scope.0) ≡ false). e) (bool_cases (k.0 == scope.0))
    where
      wrong : (k.0 == scope.0) ≡ true → ⊥
      wrong e =
          let same : k ≡ scope = scope_same k scope (eqb-true k.0 scope.0 e) in
          let at = is_body.once n is_body.opener r is_body.opener_row scope a is_body.opener_stands (o ∙ ap Opens same) is_body.opens in
          let g = ap (λ (m : NodeId). m.0) at in let u = is_body.before in omega (arith, g, low, u)

  -- what a loop or a scope catches
  scope_from : (p : Point) (n : NodeId) (r : Row) (k : ScopeId) (o : Outs) → IsRow rows n r → body.0 ≤ n.0 → opening r.form ≡ Opens k → ((z : Exit) → Has o z → From p n None k z) → (y : Exit) → Has (stopped o.skips o) y → From p n r.within.turn r.within.scope y
  scope_from p n r k o a low w g (Found j) h = g (Found j) h
  scope_from p n r k o a low w g (Ends Yes) h = ⊎_elim (λ (l : o.yes ≡ true). g (Ends Yes) l) (λ (m : o.skips ≡ true). (g Skips m refl).0 n r a w (other_scope n r k a low w) Yes) (or_from o.yes o.skips h)
  scope_from p n r k o a low w g (Ends No) h = ⊎_elim (λ (l : o.no ≡ true). g (Ends No) l) (λ (m : o.skips ≡ true). (g Skips m refl).0 n r a w (other_scope n r k a low w) No) (or_from o.no o.skips h)
  scope_from p n r k o a low w g Leaves h = absurd (cc)
  scope_from p n r k o a low w g Skips h = absurd (cc)
  scope_from p n r k o a low w g Returns h = g Returns h

  loop_from : (p : Point) (n : NodeId) (r : Row) (o : Outs) → ((z : Exit) → Has o z → From p n (Some (node_id n.0)) r.within.scope z) → (y : Exit) → Has (stopped o.leaves o) y → From p n r.within.turn r.within.scope y
  loop_from p n r o g (Found j) h = g (Found j) h
  loop_from p n r o g (Ends Yes) h = ⊎_elim (λ (l : o.yes ≡ true). g (Ends Yes) l) (λ (m : o.leaves ≡ true). subst (λ (v : NodeId). B p (After v Yes)) (node_same (node_id n.0) n refl) (g Leaves m (node_id n.0) refl Yes)) (or_from o.yes o.leaves h)
  loop_from p n r o g (Ends No) h = ⊎_elim (λ (l : o.no ≡ true). g (Ends No) l) (λ (m : o.leaves ≡ true). subst (λ (v : NodeId). B p (After v No)) (node_same (node_id n.0) n refl) (g Leaves m (node_id n.0) refl No)) (or_from o.no o.leaves h)
  loop_from p n r o g Leaves h = absurd (cc)
  loop_from p n r o g Skips h = absurd (cc)
  loop_from p n r o g Returns h = g Returns h

  caught_from : (p : Point) (n : NodeId) (r : Row) (o : Outs) → IsRow rows n r → body.0 ≤ n.0 → ((z : Exit) → Has o z → From p n (turn_of n r) (scope_of n r) z) → (y : Exit) → Has (caught r.form o) y → From p n r.within.turn r.within.scope y
  caught_from p n r o a low g y h = by (opening r.form) refl g h
    where
      by : (k : Opening) → opening r.form ≡ k → ((z : Exit) → Has o z → From p n (inside_opening k n.0 r.within).turn (inside_opening k n.0 r.within).scope z) → Has (caught_by k o) y → From p n r.within.turn r.within.scope y
      by (Opens k) w g h = scope_from p n r k o a low w g y h
      by Turns w g h = loop_from p n r o g y h
      by Plain w g h = g y h

  -- the act
  hit_from : (p : Point) (n : NodeId) (u : Option NodeId) (k : ScopeId) → B p (Acts n) → (z : Exit) → Has (here (t n)) z → From p n u k z
  hit_from p n u k b (Found j) h = (n, h, b)
  hit_from p n u k b (Ends Yes) h = absurd (cc)
  hit_from p n u k b (Ends No) h = absurd (cc)
  hit_from p n u k b Leaves h = absurd (cc)
  hit_from p n u k b Skips h = absurd (cc)
  hit_from p n u k b Returns h = absurd (cc)

  is_set : (n : NodeId) (r : Row) → IsRow rows n r → assigns r.form x ≡ false → sets rows scope body x (Acts n) ≡ false
  is_set n r a e = ap (sets_in rows scope body x) a ∙ e

  plain_turn : (n : NodeId) (r : Row) → opening r.form ≡ Plain → r.within.turn ≡ turn_of n r
  plain_turn n r e = sym (ap (λ (o : Opening). (inside_opening o n.0 r.within).turn) e)

  plain_scope : (n : NodeId) (r : Row) → opening r.form ≡ Plain → r.within.scope ≡ scope_of n r
  plain_scope n r e = sym (ap (λ (o : Opening). (inside_opening o n.0 r.within).scope) e)

  plain_from : (p : Point) (n : NodeId) (r : Row) → IsRow rows n r → is_test r.form ≡ false → assigns r.form x ≡ false → B p (Acts n) → (z : Exit) → Has (act r.form) z → From p n (turn_of n r) (scope_of n r) z
  plain_from p n r a nt s b (Found j) h = absurd (cc)
  plain_from p n r a nt s b (Ends Yes) h = on p (Acts n) (After n Yes) b (is_set n r a s) (way.plain n r Yes a nt h) (λ k. k)
  plain_from p n r a nt s b (Ends No) h = on p (Acts n) (After n No) b (is_set n r a s) (way.plain n r No a nt h) (λ k. k)
  plain_from p n r a nt s b Leaves h = λ w e g. on p (Acts n) (After w g) b (is_set n r a s) (way.leaves n w r g a h (plain_turn n r (break_plain r.form h) ∙ e)) (λ k. k)
  plain_from p n r a nt s b Skips h =
      let plain = next_plain r.form h in let same = plain_scope n r plain in
      λ e. (
        (λ d q i o off g. on p (Acts n) (After d g) b (is_set n r a s) (way.skips n d r q g a h (plain_turn n r plain ∙ e) (subst (λ (y : ScopeId). (y.0 == scope.0) ≡ false) (sym same) off) i (subst (λ (y : ScopeId). opening q.form ≡ Opens y) (sym same) o)) (λ k. k)),
        (λ in_scope. on p (Acts n) End b (is_set n r a s) (way.skips_out n r a h (plain_turn n r plain ∙ e) (subst (λ (y : ScopeId). (y.0 == scope.0) ≡ true) (sym same) in_scope)) (λ k. k)),
      )
  plain_from p n r a nt s b Returns h = on p (Acts n) End b (is_set n r a s) (way.returns n r a h) (λ k. k)

  abbrev Claim : NodeId → Type 0
  Claim n = (p : Point) → B p (Before n) → (r : Row) → IsRow rows n r → (z : Exit) → Has (T n) z → From p n r.within.turn r.within.scope z

  module _ (n : NodeId) (r : Row) (a : IsRow rows n r) (low : body.0 ≤ n.0) (claims : (c : NodeId) → n.0 < c.0 → c.0 < length rows → Claim c) where
    abbrev u : Option NodeId
    u = turn_of n r

    abbrev k : ScopeId
    k = scope_of n r

    outside : (c : NodeId) → n.0 < c.0 → c ≡ body → ⊥
    outside c lt e = let g = ap (λ (m : NodeId). m.0) e in absurd (omega (arith, g, low, lt))

    -- what is entered leads on
    child_from : (p : Point) (c : NodeId) → IsChild rows n r c → B p (Before c) → (z : Exit) → Has (T c) z → From p c u k z
    child_from p c w b z h =
        subst (λ (v : Option NodeId). From p c v k z) w.turn
        (subst (λ (y : ScopeId). From p c w.row.within.turn y z) w.scope (claims c w.later (there rows arena c w.row w.stands) p b w.row w.stands z h))

    part_jump : (p : Point) (i : ℕ) (c : NodeId) → IsHead r i c → B p (Before c) → (z : Exit) → IsJump z → Has (T c) z → From p n u k z
    part_jump p i c q b z j h = jump_from p c n u k z j (child_from p c (head_child rows arena n r i c a q) b z h)

    part_end : (p : Point) (i : ℕ) (c : NodeId) → IsHead r i c → B p (Before c) → (e : Outcome) → Has (T c) (Ends e) → B p (After c e)
    part_end p i c q b e h = child_from p c (head_child rows arena n r i c a q) b (Ends e) h

    later : (i : ℕ) (c : NodeId) → IsHead r i c → n.0 < c.0
    later i c q = (head_child rows arena n r i c a q).later

    -- what the act may run
    abbrev WithArm : Exit → Type 0
    WithArm z = (b : NodeId) × IsArm rows r b × Has (T b) z

    last_from : (s : Row) (z : Exit) → Has (at_node (reach rows t x) (last s.parts)) z → (b : NodeId) × IsLast s b × Has (T b) z
    last_from s z h = by (last s.parts) refl h
      where
        by : (o : Option NodeId) → last s.parts ≡ o → Has (at_node (reach rows t x) o) z → (b : NodeId) × IsLast s b × Has (T b) z
        by None e h = absurd (no_none z h)
        by (Some b) e h = (b, e, h)

    own_from : (z : Exit) → Has (own_outs (reach rows t x) r) z → WithArm z
    own_from z h = by (has_arm r.form) refl h
      where
        by : (v : Bool) → has_arm r.form ≡ v → Has (if v then at_node (reach rows t x) (last r.parts) else none) z → WithArm z
        by true e h = let l = last_from r z h in (l.0, way.own e l.1, l.2)
        by false e h = absurd (no_none z h)

    clause_from : (i : ℕ) (c : NodeId) (z : Exit) → is_choice r.form ≡ true → IsHead r i c → Has (clause_outs (reach rows t x) (slice_get rows c.0)) z → WithArm z
    clause_from i c z w q h = by (slice_get rows c.0) refl h
      where
        of : (s : Row) (v : Bool) → slice_get rows c.0 ≡ Some s → is_clause s.form ≡ v → Has (if v then at_node (reach rows t x) (last s.parts) else none) z → WithArm z
        of s true e g h = let l = last_from s z h in (l.0, way.clause i c s w q e g l.1, l.2)
        of s false e g h = absurd (no_none z h)

        by : (o : Option Row) → slice_get rows c.0 ≡ o → Has (clause_outs (reach rows t x) o) z → WithArm z
        by None e h = absurd (no_none z h)
        by (Some s) e h = of s (is_clause s.form) e refl h

    clauses_from : (all : Outs) (cs : List NodeId) (i : ℕ) (z : Exit) → is_choice r.form ≡ true → ((j : ℕ) (c : NodeId) → slice_get cs j ≡ Some c → (m : ℕ) → m ≡ i + j → IsHead r m c) → Has (clauses_outs (reach rows t x) rows all cs) z → Has all z ⊎ WithArm z
    clauses_from all [] i z w at h = inl h
    clauses_from all (c ∷ cs) i z w at h =
        let one = clause_outs (reach rows t x) (slice_get rows c.0) in
        ⊎_elim (λ (l : Has (join all one) z). ⊎_elim (λ (m : Has all z). inl m) (λ (m : Has one z). inr (clause_from i c z w (at 0 c refl i (omega arith)) m)) (from_join all one z l))
        (λ (m : WithArm z). inr m)
        (clauses_from (join all one) cs (suc i) z w (λ j d q m e. at (suc j) d q m (omega (arith, e))) h)

    arm_with : (z : Exit) → Has (arms_outs (reach rows t x) rows r) z → WithArm z
    arm_with z h = by (is_choice r.form) refl h
      where
        by : (v : Bool) → is_choice r.form ≡ v → Has (if v then clauses_outs (reach rows t x) rows (own_outs (reach rows t x) r) (heads r.form r.parts) else own_outs (reach rows t x) r) z → WithArm z
        by true e h =
            ⊎_elim (λ (l : Has (own_outs (reach rows t x) r) z). own_from z l) (λ (m : WithArm z). m)
            (clauses_from (own_outs (reach rows t x) r) (heads r.form r.parts) 0 z e (λ j c q m g. let s : j ≡ m = omega (arith, g) in subst (λ (v : ℕ). IsHead r v c) s q) h)
        by false e h = own_from z h

    arm_enter : (p : Point) → B p (Acts n) → assigns r.form x ≡ false → (b : NodeId) → IsArm rows r b → B p (Before b)
    arm_enter p d s b q = on p (Acts n) (Before b) d (is_set n r a s) (way.runs n b r a q) (λ k. k)

    arm_jump : (p : Point) → B p (Acts n) → assigns r.form x ≡ false → (z : Exit) → IsJump z → Has (arms_outs (reach rows t x) rows r) z → From p n u k z
    arm_jump p d s z j h = let w = arm_with z h in jump_from p w.0 n u k z j (child_from p w.0 (arm_child rows arena n r w.0 a w.1) (arm_enter p d s w.0 w.1) z w.2)

    arm_ended : (p : Point) → B p (Acts n) → assigns r.form x ≡ false → runs_apart r.form ≡ false → (e g : Outcome) → Has (arms_outs (reach rows t x) rows r) (Ends e) → B p (After n g)
    arm_ended p d s apart e g h =
        let w = arm_with (Ends e) h in let c = arm_child rows arena n r w.0 a w.1 in
        on p (After w.0 e) (After n g) (child_from p w.0 c (arm_enter p d s w.0 w.1) (Ends e) w.2) refl (way.done n w.0 r e g a w.1 apart) (outside w.0 c.later)

    beside_from : (p : Point) → B p (Acts n) → assigns r.form x ≡ false → (z : Exit) → Has (beside r.form (arms_outs (reach rows t x) rows r)) z → From p n u k z
    beside_from p d s z h = by (runs_apart r.form) refl h
      where
        all : Outs
        all = arms_outs (reach rows t x) rows r

        by : (v : Bool) → runs_apart r.form ≡ v → Has (if v then jumps (arms_outs (reach rows t x) rows r) else either (arms_outs (reach rows t x) rows r)) z → From p n u k z
        by true e h = let j = from_jumps (arms_outs (reach rows t x) rows r) z h in arm_jump p d s z j.0 j.1
        by false e h =
            ⊎_elim (λ (j : IsJump z × Has (arms_outs (reach rows t x) rows r) z). arm_jump p d s z j.0 j.1)
            (λ (g : (g : Outcome) × (o : Outcome) × (z ≡ Ends g) × Has (arms_outs (reach rows t x) rows r) (Ends o)). subst (From p n u k) (sym g.2) (arm_ended p d s e g.1 g.0 g.3))
            (from_either (arms_outs (reach rows t x) rows r) z h)

    act_from : (p : Point) → is_test r.form ≡ false → B p (Acts n) → (z : Exit) → Has (acted (t n) x r.form (arms_outs (reach rows t x) rows r)) z → From p n u k z
    act_from p nt b z h = by (assigns r.form x) refl h
      where
        by : (v : Bool) → assigns r.form x ≡ v → Has (if v then here (t n) else join (here (t n)) (join (act r.form) (beside r.form (arms_outs (reach rows t x) rows r)))) z → From p n u k z
        by true e h = hit_from p n u k b z h
        by false e h =
            ⊎_elim (λ (l : Has (here (t n)) z). hit_from p n u k b z l)
            (λ (m : Has (join (act r.form) (beside r.form (arms_outs (reach rows t x) rows r))) z).
            ⊎_elim (λ (l : Has (act r.form) z). plain_from p n r a nt e b z l)
            (λ (q : Has (beside r.form (arms_outs (reach rows t x) rows r)) z). beside_from p b e z q)
            (from_join (act r.form) (beside r.form (arms_outs (reach rows t x) rows r)) z m))
            (from_join (here (t n)) (join (act r.form) (beside r.form (arms_outs (reach rows t x) rows r))) z h)

    -- in order
    abbrev entry : List NodeId → Point
    entry [] = Acts n
    entry (c ∷ ps) = Before c

    abbrev AreFrom : List NodeId → ℕ → Type 0
    AreFrom ps i = (j : ℕ) (d : NodeId) → slice_get ps j ≡ Some d → (m : ℕ) → m ≡ i + j → IsHead r m d

    go_next : (p : Point) (i : ℕ) (c : NodeId) (ps : List NodeId) (e : Outcome) → is_test r.form ≡ false → IsHead r i c → AreFrom ps (suc i) → length (heads r.form r.parts) ≡ suc i + length ps → B p (After c e) → B p (entry ps)
    go_next p i c [] e nt q at len b = on p (After c e) (Acts n) b refl (way.last_part n c i r e a nt q (omega (arith, len))) (outside c (later i c q))
    go_next p i c (d ∷ ps) e nt q at len b = on p (After c e) (Before d) b refl (way.next n c d i r e a nt q (at 0 d refl (suc i) (omega arith))) (outside c (later i c q))

    line_from : (p : Point) (ps : List NodeId) (i : ℕ) (all : Outs) → is_test r.form ≡ false → AreFrom ps i → length (heads r.form r.parts) ≡ i + length ps → B p (entry ps) → (z : Exit) → Has (chain all (acted (t n) x r.form (arms_outs (reach rows t x) rows r)) (map (reach rows t x) ps)) z → Has all z ⊎ From p n u k z
    line_from p [] i all nt at len b z h =
        ⊎_elim (λ (l : Has all z). inl l) (λ (m : Has (acted (t n) x r.form (arms_outs (reach rows t x) rows r)) z). inr (act_from p nt b z m)) (from_join all (acted (t n) x r.form (arms_outs (reach rows t x) rows r)) z h)
    line_from p (c ∷ ps) i all nt at len b z h =
        let q : IsHead r i c = at 0 c refl i (omega arith) in
        let at2 : AreFrom ps (suc i) = λ j d g m e. at (suc j) d g m (omega (arith, e)) in
        let len2 : length (heads r.form r.parts) ≡ suc i + length ps = omega (arith, len) in
        by q (λ (e : Outcome) (g : Has (T c) (Ends e)). line_from p ps (suc i) (join all (jumps (T c))) nt at2 len2 (go_next p i c ps e nt q at2 len2 (part_end p i c q b e g)) z) (goes_on (T c)) refl h
      where
        two : IsHead r i c → Has (join all (jumps (T c))) z → Has all z ⊎ From p n u k z
        two q y = ⊎_elim (λ (l : Has all z). inl l) (λ (m : Has (jumps (T c)) z). let j = from_jumps (T c) z m in inr (part_jump p i c q b z j.0 j.1)) (from_join all (jumps (T c)) z y)

        by : IsHead r i c → ((e : Outcome) → Has (T c) (Ends e) → Has (chain (join all (jumps (T c))) (acted (t n) x r.form (arms_outs (reach rows t x) rows r)) (map (reach rows t x) ps)) z → Has (join all (jumps (T c))) z ⊎ From p n u k z) → (v : Bool) → goes_on (T c) ≡ v → Has (if v then chain (join all (jumps (T c))) (acted (t n) x r.form (arms_outs (reach rows t x) rows r)) (map (reach rows t x) ps) else join all (jumps (T c))) z → Has all z ⊎ From p n u k z
        by q more true g y = let e = on_ends (T c) g in ⊎_elim (λ (l : Has (join all (jumps (T c))) z). two q l) (λ (m : From p n u k z). inr m) (more e.0 e.1 y)
        by q more false g y = two q y

    -- by the first part's outcome
    from_give : (v w : Bool) (z : Exit) → Has (ending v w) z → (g : Outcome) × (z ≡ Ends g) × (given v w g ≡ true)
    from_give v w (Found j) h = absurd (cc)
    from_give v w (Ends Yes) h = (Yes, refl, h)
    from_give v w (Ends No) h = (No, refl, h)
    from_give v w Leaves h = absurd (cc)
    from_give v w Skips h = absurd (cc)
    from_give v w Returns h = absurd (cc)

    no_backed : (b : Bool) (z : Exit) → Has (backed b none) z → ⊥
    no_backed true z h = no_none z h
    no_backed false z h = no_none z h

    jump_or_end : (z : Exit) → IsJump z ⊎ ((g : Outcome) × (z ≡ Ends g))
    jump_or_end (Found j) = inl tt
    jump_or_end (Ends g) = inr (g, refl)
    jump_or_end Leaves = inl tt
    jump_or_end Skips = inl tt
    jump_or_end Returns = inl tt

    to_end : (p : Point) (z : Exit) (g : Outcome) → z ≡ Ends g → B p (After n g) → From p n u k z
    to_end p z g e b = subst (From p n u k) (sym e) b

    branch_from : (p : Point) (i : ℕ) (d : NodeId) → is_test r.form ≡ true → IsHead r (suc i) d → B p (Before d) → (b : Bool) → keeps r.form ≡ b → (z : Exit) → Has (backed b (T d)) z → From p n u k z
    branch_from p i d it q b false e z h =
        ⊎_elim (λ (j : IsJump z × Has (T d) z). part_jump p (suc i) d q b z j.0 j.1)
        (λ (g : (g : Outcome) × (o : Outcome) × (z ≡ Ends g) × Has (T d) (Ends o)).
        to_end p z g.0 g.2 (on p (After d g.1) (After n g.0) (part_end p (suc i) d q b g.1 g.3) refl (way.either n d i r g.1 g.0 a it q e) (outside d (later (suc i) d q))))
        (from_either (T d) z h)
    branch_from p i d it q b true e z h =
        ⊎_elim (λ (j : IsJump z). part_jump p (suc i) d q b z j h)
        (λ (g : (g : Outcome) × (z ≡ Ends g)).
        to_end p z g.0 g.1 (on p (After d g.0) (After n g.0) (part_end p (suc i) d q b g.0 (subst (Has (T d)) g.1 h)) refl (way.same n d i r g.0 a it q e) (outside d (later (suc i) d q))))
        (jump_or_end z)

    arm_part : (form : Form) (e : Outcome) (j : ℕ) → is_test form ≡ true → arm form e ≡ Part j → (i : ℕ) × (j ≡ suc i)
    arm_part f.Seq Yes j it h = let s : 1 ≡ j = cc in (0, sym s)
    arm_part f.Seq No j it h = let s : 1 ≡ j = cc in (0, sym s)
    arm_part f.If Yes j it h = let s : 1 ≡ j = cc in (0, sym s)
    arm_part f.If No j it h = let s : 2 ≡ j = cc in (1, sym s)
    arm_part f.And Yes j it h = let s : 1 ≡ j = cc in (0, sym s)
    arm_part f.And No j it h = absurd (cc)
    arm_part f.Or Yes j it h = absurd (cc)
    arm_part f.Or No j it h = let s : 1 ≡ j = cc in (0, sym s)
    arm_part f.Not Yes j it h = absurd (cc)
    arm_part f.Not No j it h = absurd (cc)
    arm_part form Yes j it h = absurd (cc)
    arm_part form No j it h = absurd (cc)

    arm_from : (p : Point) (c : NodeId) → is_test r.form ≡ true → IsHead r 0 c → (e : Outcome) → B p (After c e) → (m : Arm) → arm r.form e ≡ m → (z : Exit) → Has (armed r.form (map (reach rows t x) (heads r.form r.parts)) m) z → From p n u k z
    arm_from p c it w e b (Give v y) q z h =
        let g = from_give v y z h in
        to_end p z g.0 g.1 (on p (After c e) (After n g.0) b refl (way.gives n c v y r e g.0 a it w q g.2) (outside c (later 0 c w)))
    arm_from p c it w e b (Part j) q z h = some (slice_get (heads r.form r.parts) j) refl (subst (λ (o : Option Outs). Has (backed (keeps r.form) (at_in o)) z) (slice_get-map (reach rows t x) (heads r.form r.parts) j) h)
      where
        some : (o : Option NodeId) → slice_get (heads r.form r.parts) j ≡ o → Has (backed (keeps r.form) (at_in (option_map (reach rows t x) o))) z → From p n u k z
        some None y h = absurd (no_backed (keeps r.form) z h)
        some (Some d) y h =
            let g = arm_part r.form e j it q in let y2 = subst (λ (v : ℕ). IsHead r v d) g.1 y in
            branch_from p g.0 d it y2 (on p (After c e) (Before d) b refl (way.branch n c d j r e a it w q y) (outside c (later 0 c w))) (keeps r.form) refl z h

    tested_from : (p : Point) → is_test r.form ≡ true → B p (Before n) → (z : Exit) → Has (tested (t n) r.form (map (reach rows t x) (heads r.form r.parts))) z → From p n u k z
    tested_from p it b z h = some (slice_get (heads r.form r.parts) 0) refl (ap at_in (slice_get-map (reach rows t x) (heads r.form r.parts) 0))
      where
        enter : (c : NodeId) → IsHead r 0 c → B p (Before c)
        enter c w = on p (Before n) (Before c) b refl (way.first n c r a w) (λ k. k)

        arms : (o : Option NodeId) → slice_get (heads r.form r.parts) 0 ≡ o → at (map (reach rows t x) (heads r.form r.parts)) 0 ≡ at_in (option_map (reach rows t x) o) → (e : Outcome) → Has (at (map (reach rows t x) (heads r.form r.parts)) 0) (Ends e) → Has (armed r.form (map (reach rows t x) (heads r.form r.parts)) (arm r.form e)) z → From p n u k z
        arms None w g e q h = absurd (no_none (Ends e) (subst (λ (o : Outs). Has o (Ends e)) g q))
        arms (Some c) w g e q h = arm_from p c it w e (part_end p 0 c w (enter c w) e (subst (λ (o : Outs). Has o (Ends e)) g q)) (arm r.form e) refl z h

        jumped : (o : Option NodeId) → slice_get (heads r.form r.parts) 0 ≡ o → at (map (reach rows t x) (heads r.form r.parts)) 0 ≡ at_in (option_map (reach rows t x) o) → IsJump z × Has (at (map (reach rows t x) (heads r.form r.parts)) 0) z → From p n u k z
        jumped None w g q = absurd (no_none z (subst (λ (o : Outs). Has o z) g q.1))
        jumped (Some c) w g q = part_jump p 0 c w (enter c w) z q.0 (subst (λ (o : Outs). Has o z) g q.1)

        acts : (o : Option NodeId) → slice_get (heads r.form r.parts) 0 ≡ o → at (map (reach rows t x) (heads r.form r.parts)) 0 ≡ at_in (option_map (reach rows t x) o) → goes_on (at (map (reach rows t x) (heads r.form r.parts)) 0) ≡ true → Has (here (t n)) z → From p n u k z
        acts None w g q h = let y : goes_on none ≡ true = subst (λ (o : Outs). goes_on o ≡ true) g q in absurd (cc)
        acts (Some c) w g q h =
            let e = on_ends (at (map (reach rows t x) (heads r.form r.parts)) 0) q in
            let ended = part_end p 0 c w (enter c w) e.0 (subst (λ (o : Outs). Has o (Ends e.0)) g e.1) in
            hit_from p n u k (on p (After c e.0) (Acts n) ended refl (way.decides n c r e.0 a it w) (outside c (later 0 c w))) z h

        at_once : (o : Option NodeId) → slice_get (heads r.form r.parts) 0 ≡ o → at (map (reach rows t x) (heads r.form r.parts)) 0 ≡ at_in (option_map (reach rows t x) o) → Has (decided (t n) (at (map (reach rows t x) (heads r.form r.parts)) 0)) z → From p n u k z
        at_once o w g h =
            let c = at (map (reach rows t x) (heads r.form r.parts)) 0 in
            ⊎_elim (λ (l : Has (jumps c) z). jumped o w g (from_jumps c z l)) (λ (y : (goes_on c ≡ true) × Has (here (t n)) z). acts o w g y.0 y.1) (from_also (goes_on c) (jumps c) (here (t n)) z h)

        some : (o : Option NodeId) → slice_get (heads r.form r.parts) 0 ≡ o → at (map (reach rows t x) (heads r.form r.parts)) 0 ≡ at_in (option_map (reach rows t x) o) → From p n u k z
        some o w g =
            let c = at (map (reach rows t x) (heads r.form r.parts)) 0 in
            ⊎_elim (λ (l : Has (also c.yes (decided (t n) c) (armed r.form (map (reach rows t x) (heads r.form r.parts)) (arm r.form Yes))) z).
            ⊎_elim (λ (j : Has (decided (t n) c) z). at_once o w g j) (λ (y : (c.yes ≡ true) × Has (armed r.form (map (reach rows t x) (heads r.form r.parts)) (arm r.form Yes)) z). arms o w g Yes y.0 y.1)
            (from_also c.yes (decided (t n) c) (armed r.form (map (reach rows t x) (heads r.form r.parts)) (arm r.form Yes)) z l))
            (λ (y : (c.no ≡ true) × Has (armed r.form (map (reach rows t x) (heads r.form r.parts)) (arm r.form No)) z). arms o w g No y.0 y.1)
            (from_also c.no (also c.yes (decided (t n) c) (armed r.form (map (reach rows t x) (heads r.form r.parts)) (arm r.form Yes))) (armed r.form (map (reach rows t x) (heads r.form r.parts)) (arm r.form No)) z h)

    begin : (p : Point) (ps : List NodeId) → heads r.form r.parts ≡ ps → is_test r.form ≡ false → B p (Before n) → B p (entry ps)
    begin p [] e nt b = on p (Before n) (Acts n) b refl (way.at_once n r a nt (ap length e)) (λ k. k)
    begin p (c ∷ ps) e nt b = on p (Before n) (Before c) b refl (way.first n c r a (ap (λ (l : List NodeId). slice_get l 0) e)) (λ k. k)

    row_from : (p : Point) → B p (Before n) → (z : Exit) → Has (T n) z → From p n r.within.turn r.within.scope z
    row_from p b z h =
        ⊎_elim (λ (it : is_test r.form ≡ true). caught_from p n r (tested (t n) r.form (map (reach rows t x) (heads r.form r.parts))) a low (tested_from p it b) z (subst (λ (o : Outs). Has o z) (reach_test rows t x (forward rows arena) n r a it) h))
        (λ (nt : is_test r.form ≡ false).
        caught_from p n r (chain none (acted (t n) x r.form (arms_outs (reach rows t x) rows r)) (map (reach rows t x) (heads r.form r.parts))) a low
        (λ y g. ⊎_elim (λ (l : Has none y). absurd (no_none y l)) (λ (w : From p n u k y). w)
        (line_from p (heads r.form r.parts) 0 none nt (λ j d q m e. let s : j ≡ m = omega (arith, e) in subst (λ (v : ℕ). IsHead r v d) s q) (omega arith) (begin p (heads r.form r.parts) refl nt b) y g))
        z (subst (λ (o : Outs). Has o z) (reach_plain rows t x (forward rows arena) n r a nt) h))
        (bool_cases (is_test r.form))

  from_below : (j : ℕ) (n : NodeId) → length rows ≤ j + n.0 → body.0 ≤ n.0 → Claim n
  from_below zero n le low p b r a z h = let lt = slice_get_within rows n.0 r a in absurd (omega (arith, le, lt))
  from_below (suc j) n le low p b r a z h = row_from n r a low (λ c lt in_rows. from_below j c (omega (arith, le, lt)) (omega (arith, lt, low))) p b z h

  pub walked : (z : Exit) → Has (T body) z → From (Before body) body None scope z
  walked z h =
      subst (λ (v : Option NodeId). From (Before body) body v scope z) is_body.free
      (subst (λ (y : ScopeId). From (Before body) body is_body.row.within.turn y z) is_body.home
      (from_below (length rows) body (omega arith) (omega arith) (Before body) (stay (Before body)) is_body.row is_body.stands z h))

  unassigned : (p : Point) → B (Before body) p → IsSetBefore rows scope body x p → ⊥
  unassigned p b all = let w = bare_way rows scope body x (Before body) p b in w.2 (all w.0 w.1)

  -- what is found is a use of at most that rank, to which a way without an assignment leads
  pub found_bare : (j : ℕ) → within j (T body).found ≡ true → (n : NodeId) × (within j (t n) ≡ true) × ¬ (IsSetBefore rows scope body x (Acts n))
  found_bare j h = let w = walked (Found j) h in (w.0, w.1, unassigned (Acts w.0) w.2)

  pub not_ended : IsSetBefore rows scope body x End → reaches_end (T body) ≡ true → ⊥
  not_ended all h =
      ⊎_elim (λ (l : (goes_on (T body) || (T body).skips) ≡ true).
      ⊎_elim (λ (g : goes_on (T body) ≡ true). let e = on_ends (T body) g in
      unassigned End (on (Before body) (After body e.0) End (walked (Ends e.0) e.1) refl (way.over e.0) (λ m. m)) all)
      (λ (g : (T body).skips ≡ true). unassigned End ((walked Skips g refl).1 (eq-eqb scope.0 scope.0 refl)) all)
      (or_from (goes_on (T body)) (T body).skips l))
      (λ (g : (T body).returns ≡ true). unassigned End (walked Returns g) all)
      (or_from (goes_on (T body) || (T body).skips) (T body).returns h)

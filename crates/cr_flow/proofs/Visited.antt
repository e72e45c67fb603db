-- What a way without an assignment reaches is found.
use Rattle.std.proofs.Common.{◌+◌, ◌-◌, ◌≡◌, ℕ, zero, suc, ◌<◌, ◌≤◌, ◌⊎◌, inl, inr, ⊎_elim, Bool, true, false, List, [], ◌∷◌, length, Option, Some, None, refl, sym, ap, ◌∙◌, subst, arith}
use Rattle.std.specs.Prelude.{slice_get, map, if◌then◌else◌, ◌||◌, ◌==◌, option_map}
use Rattle.std.proofs.lemmas.Option.{slice_get_within, slice_get-map, same_Some}
use Rattle.std.proofs.lemmas.Bool.{eq-eqb, eqb-true}
use Rattle.cr_base.specs.declared.ids.NodeId.{NodeId}
use Rattle.cr_core.specs.declared.form.Form.{Form}
use Rattle.cr_core.specs.declared.form.Form.TheVariants as f
use Rattle.cr_core.specs.declared.form.ScopeId.{ScopeId}
use Rattle.cr_core.specs.declared.row.Row.{Row}
use Rattle.cr_core.specs.Arena.{node_id, Opening, Opens, Turns, Plain, opening, inside_opening}
use Rattle.cr_core.specs.Standing.{IsArena}
use Rattle.cr_flow.specs.declared.variable.Variable.{Variable}
use Rattle.cr_flow.specs.declared.variable.Outcome.{Outcome}
use Rattle.cr_flow.specs.declared.variable.Outcome.TheVariants.{Yes, No}
use Rattle.cr_flow.specs.declared.variable.Arm.{Arm}
use Rattle.cr_flow.specs.declared.variable.Arm.TheVariants.{Part, Give}
use Rattle.cr_flow.specs.declared.outs.Outs.{Outs}
use Rattle.cr_flow.specs.Control.{is_test, arm, keeps, ends, is_break, begins_turn, is_next, is_return, assigns, has_arm, is_clause, is_choice, runs_apart, heads, last}
use Rattle.cr_flow.specs.Ways as way
use Rattle.cr_flow.specs.Ways.{Point, Before, Acts, After, End, IsRow, IsHead, IsLast, IsArm, given, Step, leaves_scope, sets, sets_in, Way, IsSetOn}
use Rattle.cr_flow.specs.Outs.{none, ending, join, also, goes_on, reaches_end, jumps, either, caught_by, caught, act, beside, here, acted, decided, chain, at, at_in, backed, armed, tested, at_node, own_outs, clause_outs, clauses_outs, arms_outs, inner, reach}
use Rattle.cr_flow.proofs.Reaching.{reach_some, inner_test, inner_plain}
use Rattle.cr_flow.proofs.Parts.{forward, lt-or-le, node_same, scope_same, not_both, IsChild, same_row, same_head, same_arm, head_no_arm, head_child, arm_child}
use Rattle.cr_flow.proofs.Exits.{within, within_own, Exit, Found, Ends, Leaves, Skips, Returns, Has, IsJump, or_left, or_right, in_left, in_right, in_also, in_also_new, in_jumps, ends_on, in_either, both_either, caught_ends, caught_returns, caught_found, scope_stops, loop_stops, chain_jump, chain_acts}

pub bool_cases : (b : Bool) → (b ≡ true) ⊎ (b ≡ false)
bool_cases true = inl refl
bool_cases false = inr refl

pub taken : (b : Bool) (p q : Outs) (z : Exit) → b ≡ true → Has p z → Has (if b then p else q) z
taken true p q z e h = h
taken false p q z e h = absurd (cc)

pub passed : (b : Bool) (p q : Outs) (z : Exit) → b ≡ false → Has q z → Has (if b then p else q) z
passed true p q z e h = absurd (cc)
passed false p q z e h = h

in_tested_jump : (t : NodeId → Option ℕ) (n : NodeId) (form : Form) (os : List Outs) (z : Exit) → IsJump z → Has (at os 0) z → Has (tested (t n) form os) z
in_tested_jump t n form os z j h =
    let c = at os 0 in
    in_also c.no (also c.yes (decided (t n) c) (armed form os (arm form Yes))) (armed form os (arm form No)) z
    (in_also c.yes (decided (t n) c) (armed form os (arm form Yes)) z (in_also (goes_on c) (jumps c) (here (t n)) z (in_jumps c z j h)))

has_here : (k : Option ℕ) (j : ℕ) → k ≡ Some j → Has (here k) (Found j)
has_here k j e = ap (within j) e ∙ within_own j

in_tested_here : (t : NodeId → Option ℕ) (n : NodeId) (form : Form) (os : List Outs) (e : Outcome) (j : ℕ) → t n ≡ Some j → Has (at os 0) (Ends e) → Has (tested (t n) form os) (Found j)
in_tested_here t n form os e j g h =
    let c = at os 0 in
    in_also c.no (also c.yes (decided (t n) c) (armed form os (arm form Yes))) (armed form os (arm form No)) (Found j)
    (in_also c.yes (decided (t n) c) (armed form os (arm form Yes)) (Found j) (in_also_new (goes_on c) (jumps c) (here (t n)) (Found j) (ends_on c e h) (has_here (t n) j g)))

in_tested_arm : (t : NodeId → Option ℕ) (n : NodeId) (form : Form) (os : List Outs) (e : Outcome) (z : Exit) → Has (at os 0) (Ends e) → Has (armed form os (arm form e)) z → Has (tested (t n) form os) z
in_tested_arm t n form os Yes z h k =
    let c = at os 0 in
    in_also c.no (also c.yes (decided (t n) c) (armed form os (arm form Yes))) (armed form os (arm form No)) z
    (in_also_new c.yes (decided (t n) c) (armed form os (arm form Yes)) z h k)
in_tested_arm t n form os No z h k =
    let c = at os 0 in
    in_also_new c.no (also c.yes (decided (t n) c) (armed form os (arm form Yes))) (armed form os (arm form No)) z h k

jump_backed : (b : Bool) (o : Outs) (z : Exit) → IsJump z → Has o z → Has (backed b o) z
jump_backed true o z j h = h
jump_backed false o z j h = in_either o z h

end_backed : (b : Bool) (o : Outs) (e g : Outcome) → b ≡ false → Has o (Ends e) → Has (backed b o) (Ends g)
end_backed true o e g k h = absurd (cc)
end_backed false o e g k h = both_either o g (ends_on o e h)

same_backed : (b : Bool) (o : Outs) (z : Exit) → b ≡ true → Has o z → Has (backed b o) z
same_backed true o z k h = h
same_backed false o z k h = absurd (cc)

given_has : (u v : Bool) (g : Outcome) → given u v g ≡ true → Has (ending u v) (Ends g)
given_has u v Yes h = h
given_has u v No h = h

act_ends : (form : Form) (e : Outcome) → ends form e ≡ true → Has (act form) (Ends e)
act_ends form Yes h = h
act_ends form No h = h

pub break_plain : (form : Form) → is_break form ≡ true → opening form ≡ Plain
break_plain f.Break e = refl
break_plain form e = absurd (cc)

pub next_plain : (form : Form) → is_next form ≡ true → opening form ≡ Plain
next_plain f.Next e = refl
next_plain form e = absurd (cc)

-- what acts so is no condition
break_acts : (form : Form) → is_break form ≡ true → is_test form ≡ false
break_acts f.Break e = refl
break_acts form e = absurd (cc)

next_acts : (form : Form) → is_next form ≡ true → is_test form ≡ false
next_acts f.Next e = refl
next_acts form e = absurd (cc)

return_acts : (form : Form) → is_return form ≡ true → is_test form ≡ false
return_acts f.Return e = refl
return_acts form e = absurd (cc)

has_arm_acts : (form : Form) → has_arm form ≡ true → is_test form ≡ false
has_arm_acts (f.Call name receiver block) e = refl
has_arm_acts (f.New question block) e = refl
has_arm_acts (f.Spawn context) e = refl
has_arm_acts (f.Select otherwise) e = refl
has_arm_acts form e = absurd (cc)

choice_acts : (form : Form) → is_choice form ≡ true → is_test form ≡ false
choice_acts (f.Select otherwise) e = refl
choice_acts form e = absurd (cc)

arm_acts : (rows : List Row) (r : Row) (b : NodeId) → IsArm rows r b → is_test r.form ≡ false
arm_acts rows r b (way.own v l) = has_arm_acts r.form v
arm_acts rows r b (way.clause i c s k p a g l) = choice_acts r.form k

-- the body of a scope
pub record IsBody (rows : List Row) (scope : ScopeId) (body : NodeId) : Type 0 where
  pub row : Row
  pub stands : IsRow rows body row
  pub free : row.within.turn ≡ None
  pub home : row.within.scope ≡ scope
  pub opener : NodeId
  pub opener_row : Row
  pub opener_stands : IsRow rows opener opener_row
  pub opens : opening opener_row.form ≡ Opens scope
  pub before : opener.0 < body.0
  pub once : (n m : NodeId) (q s : Row) (k : ScopeId) → IsRow rows n q → IsRow rows m s → opening q.form ≡ Opens k → opening s.form ≡ Opens k → n ≡ m

module _ (rows : List Row) (arena : IsArena rows) (t : NodeId → Option ℕ) (x : Variable) (scope : ScopeId) (body : NodeId) (is_body : IsBody rows scope body) where
  abbrev T : NodeId → Outs
  T n = reach rows t x n

  abbrev inner_of : NodeId → Row → Outs
  inner_of n r = inner (reach rows t x) rows t x n r

  abbrev outs_at : Row → List Outs
  outs_at r = map (reach rows t x) (heads r.form r.parts)

  abbrev act_at : NodeId → Row → Outs
  act_at n r = acted (t n) x r.form (arms_outs (reach rows t x) rows r)

  -- the parts before this one, or all parts, end
  abbrev AreOn : Row → ℕ → Type 0
  AreOn r i = (j : ℕ) (d : NodeId) → j < i → IsHead r j d → goes_on (T d) ≡ true

  abbrev AllOn : Row → Type 0
  AllOn r = (is_test r.form ≡ false) × ((j : ℕ) (d : NodeId) → IsHead r j d → goes_on (T d) ≡ true)

  -- the outcome of the first part leads to this one
  abbrev IsChosen : Row → ℕ → Type 0
  IsChosen r i = (c : NodeId) × (e : Outcome) × IsHead r 0 c × Has (T c) (Ends e) × (arm r.form e ≡ Part i)

  abbrev IsEntered : Row → ℕ → Type 0
  IsEntered r i = (is_test r.form ≡ false → AreOn r i) × (is_test r.form ≡ true → (i ≡ 0) ⊎ IsChosen r i)

  -- how the evaluation of a row comes to this node
  data Entry (r : Row) (c : NodeId) : Type 0 where
    in_head : (i : ℕ) → IsHead r i c → IsEntered r i → Entry r c
    in_arm : IsArm rows r c → AllOn r → assigns r.form x ≡ false → Entry r c

  -- the evaluation of the body comes to this node without an assignment
  data Visited : NodeId → Type 0 where
    start : (c : NodeId) → c ≡ body → Visited c
    into : (n c : NodeId) (r : Row) → Visited n → IsRow rows n r → Entry r c → Visited c

  T_of : (n : NodeId) (r : Row) → IsRow rows n r → T n ≡ caught r.form (inner_of n r)
  T_of n r a = reach_some rows t x (forward rows arena) n r a

  at_head : (r : Row) (i : ℕ) (c : NodeId) → IsHead r i c → at (outs_at r) i ≡ T c
  at_head r i c p = ap at_in (slice_get-map (reach rows t x) (heads r.form r.parts) i ∙ ap (option_map (reach rows t x)) p)

  -- what an act may run
  clauses_keep : (all : Outs) (cs : List NodeId) (z : Exit) → Has all z → Has (clauses_outs (reach rows t x) rows all cs) z
  clauses_keep all [] z h = h
  clauses_keep all (c ∷ cs) z h = clauses_keep (join all (clause_outs (reach rows t x) (slice_get rows c.0))) cs z (in_left all (clause_outs (reach rows t x) (slice_get rows c.0)) z h)

  clauses_in : (all : Outs) (cs : List NodeId) (i : ℕ) (c : NodeId) (z : Exit) → slice_get cs i ≡ Some c → Has (clause_outs (reach rows t x) (slice_get rows c.0)) z → Has (clauses_outs (reach rows t x) rows all cs) z
  clauses_in all [] i c z e h = absurd (cc)
  clauses_in all (d ∷ cs) zero c z e h =
      let s : d ≡ c = cc in
      clauses_keep (join all (clause_outs (reach rows t x) (slice_get rows d.0))) cs z
      (in_right all (clause_outs (reach rows t x) (slice_get rows d.0)) z (subst (λ (v : NodeId). Has (clause_outs (reach rows t x) (slice_get rows v.0)) z) (sym s) h))
  clauses_in all (d ∷ cs) (suc i) c z e h = clauses_in (join all (clause_outs (reach rows t x) (slice_get rows d.0))) cs i c z e h

  last_has : (r : Row) (b : NodeId) (z : Exit) → IsLast r b → Has (T b) z → Has (at_node (reach rows t x) (last r.parts)) z
  last_has r b z l h = subst (λ (o : Option NodeId). Has (at_node (reach rows t x) o) z) (sym l) h

  arms_in : (r : Row) (b : NodeId) (z : Exit) → IsArm rows r b → Has (T b) z → Has (arms_outs (reach rows t x) rows r) z
  arms_in r b z (way.own v l) h = by (is_choice r.form)
    where
      mine : Has (own_outs (reach rows t x) r) z
      mine = taken (has_arm r.form) (at_node (reach rows t x) (last r.parts)) none z v (last_has r b z l h)

      by : (k : Bool) → Has (if k then clauses_outs (reach rows t x) rows (own_outs (reach rows t x) r) (heads r.form r.parts) else own_outs (reach rows t x) r) z
      by true = clauses_keep (own_outs (reach rows t x) r) (heads r.form r.parts) z mine
      by false = mine
  arms_in r b z (way.clause i c s k p a g l) h =
      let one = taken (is_clause s.form) (at_node (reach rows t x) (last s.parts)) none z g (last_has s b z l h) in
      let there = subst (λ (o : Option Row). Has (clause_outs (reach rows t x) o) z) (sym a) one in
      taken (is_choice r.form) (clauses_outs (reach rows t x) rows (own_outs (reach rows t x) r) (heads r.form r.parts)) (own_outs (reach rows t x) r) z k
      (clauses_in (own_outs (reach rows t x) r) (heads r.form r.parts) i c z p there)

  -- the act
  acted_has : (n : NodeId) (r : Row) (z : Exit) → assigns r.form x ≡ false → Has (join (act r.form) (beside r.form (arms_outs (reach rows t x) rows r))) z → Has (act_at n r) z
  acted_has n r z s h =
      let all = join (act r.form) (beside r.form (arms_outs (reach rows t x) rows r)) in
      passed (assigns r.form x) (here (t n)) (join (here (t n)) all) z s (in_right (here (t n)) all z h)

  acted_found : (n : NodeId) (r : Row) (j : ℕ) → t n ≡ Some j → Has (act_at n r) (Found j)
  acted_found n r j g = by (assigns r.form x)
    where
      by : (b : Bool) → Has (if b then here (t n) else join (here (t n)) (join (act r.form) (beside r.form (arms_outs (reach rows t x) rows r)))) (Found j)
      by true = has_here (t n) j g
      by false = in_left (here (t n)) (join (act r.form) (beside r.form (arms_outs (reach rows t x) rows r))) (Found j) (has_here (t n) j g)

  acts_in : (n : NodeId) (r : Row) (z : Exit) → AllOn r → Has (act_at n r) z → Has (inner_of n r) z
  acts_in n r z on h = subst (λ (o : Outs). Has o z) (sym (inner_plain rows t x (forward rows arena) n r on.0)) (chain_acts (reach rows t x) none (act_at n r) (heads r.form r.parts) z on.1 h)

  jump_beside : (form : Form) (o : Outs) (z : Exit) → IsJump z → Has o z → Has (beside form o) z
  jump_beside form o z j h = by (runs_apart form)
    where
      by : (b : Bool) → Has (if b then jumps o else either o) z
      by true = in_jumps o z j h
      by false = in_either o z h

  -- a jump of what is entered is one of the row's own evaluation
  entry_jump : (n c : NodeId) (r : Row) → IsRow rows n r → Entry r c → (z : Exit) → IsJump z → Has (T c) z → Has (inner_of n r) z
  entry_jump n c r a (in_arm k on na) z j h =
      acts_in n r z on (acted_has n r z na (in_right (act r.form) (beside r.form (arms_outs (reach rows t x) rows r)) z (jump_beside r.form (arms_outs (reach rows t x) rows r) z j (arms_in r c z k h))))
  entry_jump n c r a (in_head i p ent) z j h =
      ⊎_elim (λ (it : is_test r.form ≡ true). subst (λ (o : Outs). Has o z) (sym (inner_test rows t x (forward rows arena) n r it)) (test (ent.1 it)))
      (λ (nt : is_test r.form ≡ false). subst (λ (o : Outs). Has o z) (sym (inner_plain rows t x (forward rows arena) n r nt)) (chain_jump (reach rows t x) none (act_at n r) (heads r.form r.parts) i c z p (ent.0 nt) j h))
      (bool_cases (is_test r.form))
    where
      there : Has (at (outs_at r) i) z
      there = subst (λ (o : Outs). Has o z) (sym (at_head r i c p)) h

      test : (i ≡ 0) ⊎ IsChosen r i → Has (tested (t n) r.form (outs_at r)) z
      test (inl e) = in_tested_jump t n r.form (outs_at r) z j (subst (λ (v : ℕ). Has (at (outs_at r) v) z) e there)
      test (inr q) =
          in_tested_arm t n r.form (outs_at r) q.1 z (subst (λ (o : Outs). Has o (Ends q.1)) (sym (at_head r 0 q.0 q.2)) q.3)
          (subst (λ (m : Arm). Has (armed r.form (outs_at r) m) z) (sym q.4) (jump_backed (keeps r.form) (at (outs_at r) i) z j there))

  entry_child : (n c : NodeId) (r : Row) → IsRow rows n r → Entry r c → IsChild rows n r c
  entry_child n c r a (in_head i p ent) = head_child rows arena n r i c a p
  entry_child n c r a (in_arm k on na) = arm_child rows arena n r c a k

  visited_row : (c : NodeId) → Visited c → (s : Row) × IsRow rows c s
  visited_row c (start d e) = (is_body.row, subst (λ (v : NodeId). IsRow rows v is_body.row) (sym e) is_body.stands)
  visited_row c (into n d r v a ent) = let k = entry_child n c r a ent in (k.row, k.stands)

  behind : (c : NodeId) → Visited c → body.0 ≤ c.0
  behind c (start d e) = let u = ap (λ (v : NodeId). v.0) e in omega (arith, u)
  behind c (into n d r v a ent) = let l = behind n v in let k = entry_child n c r a ent in let u = k.later in omega (arith, l, u)

  child_turn : (n c : NodeId) (r s : Row) → IsRow rows n r → Entry r c → IsRow rows c s → (s.within.turn ≡ (inside_opening (opening r.form) n.0 r.within).turn) × (s.within.scope ≡ (inside_opening (opening r.form) n.0 r.within).scope)
  child_turn n c r s a ent b =
      let k = entry_child n c r a ent in let q = same_row rows arena c s k.row b k.stands in
      (ap (λ (v : Row). v.within.turn) q ∙ k.turn, ap (λ (v : Row). v.within.scope) q ∙ k.scope)

  -- what nothing catches climbs to the body
  climb : (z : Exit) → IsJump z → ((form : Form) (o : Outs) → Has o z → Has (caught form o) z) → (c : NodeId) → Visited c → Has (T c) z → Has (T body) z
  climb z j pass c (start d e) h = subst (λ (v : NodeId). Has (T v) z) e h
  climb z j pass c (into n d r v a ent) h = climb z j pass n v (subst (λ (o : Outs). Has o z) (sym (T_of n r a)) (pass r.form (inner_of n r) (entry_jump n c r a ent z j h)))

  -- the loop around a node
  up_turn : (c w : NodeId) (s : Row) → Visited c → IsRow rows c s → s.within.turn ≡ Some w → Visited w
  up_turn c w s (start d e) b u =
      let q = same_row rows arena body s is_body.row (subst (λ (v : NodeId). IsRow rows v s) e b) is_body.stands in
      let f : None ≡ Some w = sym is_body.free ∙ ap (λ (v : Row). v.within.turn) (sym q) ∙ u in absurd (cc)
  up_turn c w s (into n d r v a ent) b u = by (λ (q : r.within.turn ≡ Some w). up_turn n w r v a q) (opening r.form) (sym (child_turn n c r s a ent b).0 ∙ u)
    where
      by : (r.within.turn ≡ Some w → Visited w) → (o : Opening) → (inside_opening o n.0 r.within).turn ≡ Some w → Visited w
      by more (Opens k) q = absurd (cc)
      by more Turns q = subst Visited (node_same n w (ap (λ (m : NodeId). m.0) (same_Some (node_id n.0) w q))) v
      by more Plain q = more q

  keep_plain : (n : NodeId) (r : Row) (z : Exit) → IsRow rows n r → opening r.form ≡ Plain → Has (inner_of n r) z → Has (T n) z
  keep_plain n r z a p h = subst (λ (o : Outs). Has o z) (sym (T_of n r a)) (subst (λ (k : Opening). Has (caught_by k (inner_of n r)) z) (sym p) h)

  leave : (c w : NodeId) (s : Row) (e : Outcome) → Visited c → IsRow rows c s → s.within.turn ≡ Some w → Has (T c) Leaves → Has (T w) (Ends e)
  leave c w s e (start d g) b u h =
      let q = same_row rows arena body s is_body.row (subst (λ (v : NodeId). IsRow rows v s) g b) is_body.stands in
      let f : None ≡ Some w = sym is_body.free ∙ ap (λ (v : Row). v.within.turn) (sym q) ∙ u in absurd (cc)
  leave c w s e (into n d r v a ent) b u h = by (λ (q : r.within.turn ≡ Some w) (k : Has (T n) Leaves). leave n w r e v a q k) (opening r.form) refl (sym (child_turn n c r s a ent b).0 ∙ u)
    where
      mine : Has (inner_of n r) Leaves
      mine = entry_jump n c r a ent Leaves tt h

      by : (r.within.turn ≡ Some w → Has (T n) Leaves → Has (T w) (Ends e)) → (o : Opening) → opening r.form ≡ o → (inside_opening o n.0 r.within).turn ≡ Some w → Has (T w) (Ends e)
      by more (Opens k) p q = absurd (cc)
      by more Turns p q =
          subst (λ (m : NodeId). Has (T m) (Ends e)) (node_same n w (ap (λ (m : NodeId). m.0) (same_Some (node_id n.0) w q)))
          (subst (λ (o : Outs). Has o (Ends e)) (sym (T_of n r a)) (subst (λ (k : Opening). Has (caught_by k (inner_of n r)) (Ends e)) (sym p) (loop_stops (inner_of n r) e mine)))
      by more Plain p q = more q (keep_plain n r Leaves a p mine)

  -- the block around a node
  skip : (c b : NodeId) (s q : Row) (e : Outcome) → Visited c → IsRow rows c s → s.within.turn ≡ None → (s.within.scope.0 == scope.0) ≡ false → IsRow rows b q → opening q.form ≡ Opens s.within.scope → Has (T c) Skips → Visited b × Has (T b) (Ends e)
  skip c b s q e (start d g) k u off m o h =
      let w = same_row rows arena body s is_body.row (subst (λ (v : NodeId). IsRow rows v s) g k) is_body.stands in
      let same : s.within.scope ≡ scope = ap (λ (v : Row). v.within.scope) w ∙ is_body.home in
      absurd (not_both (s.within.scope.0 == scope.0) (eq-eqb s.within.scope.0 scope.0 (ap (λ (v : ScopeId). v.0) same)) off)
  skip c b s q e (into n d r v a ent) k u off m o h = by (λ (g : r.within.turn ≡ None) (y : (r.within.scope.0 == scope.0) ≡ false) (w : opening q.form ≡ Opens r.within.scope) (z : Has (T n) Skips). skip n b r q e v a g y m w z) (opening r.form) refl (sym (child_turn n c r s a ent k).0 ∙ u) (sym (child_turn n c r s a ent k).1)
    where
      mine : Has (inner_of n r) Skips
      mine = entry_jump n c r a ent Skips tt h

      by : (r.within.turn ≡ None → (r.within.scope.0 == scope.0) ≡ false → opening q.form ≡ Opens r.within.scope → Has (T n) Skips → Visited b × Has (T b) (Ends e)) → (w : Opening) → opening r.form ≡ w → (inside_opening w n.0 r.within).turn ≡ None → (inside_opening w n.0 r.within).scope ≡ s.within.scope → Visited b × Has (T b) (Ends e)
      by more (Opens j) p g i =
          let same = is_body.once n b r q s.within.scope a m (p ∙ ap Opens i) o in (
            subst Visited same v,
            subst (λ (m : NodeId). Has (T m) (Ends e)) same (subst (λ (o : Outs). Has o (Ends e)) (sym (T_of n r a)) (scope_stops (opening r.form) (inner_of n r) e j p mine)),
          )
      by more Turns p g i = absurd (cc)
      by more Plain p g i =
          more g (subst (λ (y : ScopeId). (y.0 == scope.0) ≡ false) (sym i) off) (subst (λ (y : ScopeId). opening q.form ≡ Opens y) (sym i) o) (keep_plain n r Skips a p mine)

  -- or the scope itself
  skip_out : (c : NodeId) (s : Row) → Visited c → IsRow rows c s → s.within.turn ≡ None → (s.within.scope.0 == scope.0) ≡ true → Has (T c) Skips → Has (T body) Skips
  skip_out c s (start d g) k u on h = subst (λ (v : NodeId). Has (T v) Skips) g h
  skip_out c s (into n d r v a ent) k u on h = by (λ (g : r.within.turn ≡ None) (y : (r.within.scope.0 == scope.0) ≡ true) (z : Has (T n) Skips). skip_out n r v a g y z) (opening r.form) refl (sym (child_turn n c r s a ent k).0 ∙ u) (sym (child_turn n c r s a ent k).1)
    where
      mine : Has (inner_of n r) Skips
      mine = entry_jump n c r a ent Skips tt h

      same_scope : (y : ScopeId) → y ≡ s.within.scope → y ≡ scope
      same_scope y i = i ∙ scope_same s.within.scope scope (eqb-true s.within.scope.0 scope.0 on)

      by : (r.within.turn ≡ None → (r.within.scope.0 == scope.0) ≡ true → Has (T n) Skips → Has (T body) Skips) → (w : Opening) → opening r.form ≡ w → (inside_opening w n.0 r.within).turn ≡ None → (inside_opening w n.0 r.within).scope ≡ s.within.scope → Has (T body) Skips
      by more (Opens j) p g i =
          let same = is_body.once n is_body.opener r is_body.opener_row scope a is_body.opener_stands (p ∙ ap Opens (same_scope j i)) is_body.opens in
          let l = behind n v in let u = is_body.before in let e = ap (λ (m : NodeId). m.0) same in
          absurd (omega (arith, l, u, e))
      by more Turns p g i = absurd (cc)
      by more Plain p g i = more g (subst (λ (y : ScopeId). (y.0 == scope.0) ≡ true) (sym i) on) (keep_plain n r Skips a p mine)

  -- how a node was entered
  from_head : (c : NodeId) → Visited c → ¬ (c ≡ body) → (n : NodeId) (r : Row) (i : ℕ) → IsRow rows n r → IsHead r i c → Visited n × IsEntered r i
  from_head c (start d e) nr n r i a p = absurd (nr e)
  from_head c (into m d q v b (in_head j g ent)) nr n r i a p =
      let s = same_head rows arena m n q r j i c b g a p in
      (subst Visited s.0 v, subst (λ (k : ℕ). IsEntered r k) s.2 (subst (λ (u : Row). IsEntered u j) s.1 ent))
  from_head c (into m d q v b (in_arm k on na)) nr n r i a p = absurd (head_no_arm rows arena n m r q i c a p b k)

  from_arm : (c : NodeId) → Visited c → ¬ (c ≡ body) → (n : NodeId) (r : Row) → IsRow rows n r → IsArm rows r c → Visited n × AllOn r × (assigns r.form x ≡ false)
  from_arm c (start d e) nr n r a k = absurd (nr e)
  from_arm c (into m d q v b (in_head j g ent)) nr n r a k = absurd (head_no_arm rows arena m n q r j c b g a k)
  from_arm c (into m d q v b (in_arm l on na)) nr n r a k =
      let e = same_arm rows arena m n q r c b l a k in
      let s = same_row rows arena n q r (subst (λ (u : NodeId). IsRow rows u q) e b) a in
      (subst Visited e v, subst AllOn s on, subst (λ (u : Row). assigns u.form x ≡ false) s na)

  -- where a row acts: all its parts have ended, or the first part of a condition has
  abbrev IsDecided : Row → Type 0
  IsDecided r = (c : NodeId) × (e : Outcome) × (is_test r.form ≡ true) × IsHead r 0 c × Has (T c) (Ends e)

  abbrev AtAct : Row → Type 0
  AtAct r = AllOn r ⊎ IsDecided r

  on_of : (r : Row) → is_test r.form ≡ false → AtAct r → AllOn r
  on_of r nt (inl on) = on
  on_of r nt (inr d) = absurd (not_both (is_test r.form) d.2 nt)

  -- what is reached
  abbrev Reached : Point → Type 0
  Reached (Before n) = Visited n
  Reached (Acts n) = Visited n × ((r : Row) → IsRow rows n r → AtAct r)
  Reached (After n e) = Visited n × Has (T n) (Ends e)
  Reached End = reaches_end (T body) ≡ true

  not_set : (n : NodeId) (r : Row) → IsRow rows n r → sets rows scope body x (Acts n) ≡ false → assigns r.form x ≡ false
  not_set n r a s = sym (ap (sets_in rows scope body x) a) ∙ s

  on_also : (r : Row) (i : ℕ) (c : NodeId) (e : Outcome) → AreOn r i → IsHead r i c → Has (T c) (Ends e) → AreOn r (suc i)
  on_also r i c e on p h j d lt q =
      ⊎_elim (λ (l : j < i). on j d l q)
      (λ (l : i ≤ j).
      let same : j ≡ i = omega (arith, lt, l) in
      let k = same_Some d c (sym q ∙ subst (λ (v : ℕ). IsHead r v c) (sym same) p) in
      subst (λ (v : NodeId). goes_on (T v) ≡ true) (sym k) (ends_on (T c) e h))
      (lt-or-le j i)

  at_act : (n : NodeId) (r : Row) → IsRow rows n r → AtAct r → (q : Row) → IsRow rows n q → AtAct q
  at_act n r a on q b = subst AtAct (same_row rows arena n r q a b) on

  own_ends : (n : NodeId) (r : Row) (z : Exit) → IsRow rows n r → AllOn r → (g : Outcome) → z ≡ Ends g → Has (act_at n r) z → Has (T n) (Ends g)
  own_ends n r z a on g e h = subst (λ (o : Outs). Has o (Ends g)) (sym (T_of n r a)) (caught_ends r.form (inner_of n r) g (acts_in n r (Ends g) on (subst (Has (act_at n r)) e h)))

  test_ends : (n c : NodeId) (r : Row) (e g : Outcome) → IsRow rows n r → is_test r.form ≡ true → IsHead r 0 c → Has (T c) (Ends e) → Has (armed r.form (outs_at r) (arm r.form e)) (Ends g) → Has (T n) (Ends g)
  test_ends n c r e g a it p h k =
      subst (λ (o : Outs). Has o (Ends g)) (sym (T_of n r a)) (caught_ends r.form (inner_of n r) g
      (subst (λ (o : Outs). Has o (Ends g)) (sym (inner_test rows t x (forward rows arena) n r it)) (in_tested_arm t n r.form (outs_at r) e (Ends g) (subst (λ (o : Outs). Has o (Ends e)) (sym (at_head r 0 c p)) h) k)))

  -- a part to which a condition led has ended so, and the whole ends so
  arm_ends : (n c : NodeId) (i : ℕ) (r : Row) (g : Outcome) → IsRow rows n r → is_test r.form ≡ true → IsHead r (suc i) c → IsEntered r (suc i) → Has (backed (keeps r.form) (T c)) (Ends g) → Has (T n) (Ends g)
  arm_ends n c i r g a it p ent h = by (ent.1 it)
    where
      by : (suc i ≡ 0) ⊎ IsChosen r (suc i) → Has (T n) (Ends g)
      by (inl e) = absurd (omega (arith, e))
      by (inr q) =
          test_ends n q.0 r q.1 g a it q.2 q.3
          (subst (λ (m : Arm). Has (armed r.form (outs_at r) m) (Ends g)) (sym q.4) (subst (λ (o : Outs). Has (backed (keeps r.form) o) (Ends g)) (sym (at_head r (suc i) c p)) h))

  go_on : (p q : Point) → Step rows scope body p q → ¬ (leaves_scope body p q) → sets rows scope body x p ≡ false → Reached p → Reached q
  go_on p q (way.first n c r a k) inner s v = into n c r v a (in_head 0 k ((λ nt j d lt w. absurd (omega (arith, lt))), (λ it. inl refl)))
  go_on p q (way.at_once n r a nt z) inner s v = (v, at_act n r a (inl (nt, (λ j d w. let l = slice_get_within (heads r.form r.parts) j d w in absurd (omega (arith, l, z))))))
  go_on p q (way.next n c d i r e a nt k m) inner s v =
      let h = from_head c v.0 inner n r i a k in
      into n d r h.0 a (in_head (suc i) m ((λ n2. on_also r i c e (h.1.0 nt) k v.1), (λ it. absurd (not_both (is_test r.form) it nt))))
  go_on p q (way.last_part n c i r e a nt k z) inner s v =
      let h = from_head c v.0 inner n r i a k in
      (h.0, at_act n r a (inl (nt, (λ j d w. let l = slice_get_within (heads r.form r.parts) j d w in on_also r i c e (h.1.0 nt) k v.1 j d (omega (arith, l, z)) w))))
  go_on p q (way.branch n c d j r e a it k m w) inner s v =
      let h = from_head c v.0 inner n r 0 a k in
      into n d r h.0 a (in_head j w ((λ nt. absurd (not_both (is_test r.form) it nt)), (λ i2. inr (c, e, k, v.1, m))))
  go_on p q (way.gives n c y u r e g a it k m w) inner s v =
      let h = from_head c v.0 inner n r 0 a k in
      (h.0, test_ends n c r e g a it k v.1 (subst (λ (b : Arm). Has (armed r.form (outs_at r) b) (Ends g)) (sym m) (given_has y u g w)))
  go_on p q (way.either n c i r e g a it k m) inner s v =
      let h = from_head c v.0 inner n r (suc i) a k in
      (h.0, arm_ends n c i r g a it k h.1 (end_backed (keeps r.form) (T c) e g m v.1))
  go_on p q (way.same n c i r e a it k m) inner s v =
      let h = from_head c v.0 inner n r (suc i) a k in
      (h.0, arm_ends n c i r e a it k h.1 (same_backed (keeps r.form) (T c) (Ends e) m v.1))
  go_on p q (way.decides n c r e a it k) inner s v = let h = from_head c v.0 inner n r 0 a k in (h.0, at_act n r a (inr (c, e, it, k, v.1)))
  go_on p q (way.plain n r e a nt w) inner s v =
      let rest = beside r.form (arms_outs (reach rows t x) rows r) in
      (v.0, own_ends n r (Ends e) a (on_of r nt (v.1 r a)) e refl (acted_has n r (Ends e) (not_set n r a s) (in_left (act r.form) rest (Ends e) (act_ends r.form e w))))
  go_on p q (way.leaves n w r e a k m) inner s v =
      let rest = beside r.form (arms_outs (reach rows t x) rows r) in
      let mine = keep_plain n r Leaves a (break_plain r.form k) (acts_in n r Leaves (on_of r (break_acts r.form k) (v.1 r a)) (acted_has n r Leaves (not_set n r a s) (in_left (act r.form) rest Leaves k))) in
      (up_turn n w r v.0 a m, leave n w r e v.0 a m mine)
  go_on p q (way.again n w r a k m) inner s v = up_turn n w r v.0 a m
  go_on p q (way.skips n b r u e a k m off d o) inner s v =
      let rest = beside r.form (arms_outs (reach rows t x) rows r) in
      let mine = keep_plain n r Skips a (next_plain r.form k) (acts_in n r Skips (on_of r (next_acts r.form k) (v.1 r a)) (acted_has n r Skips (not_set n r a s) (in_left (act r.form) rest Skips k))) in
      skip n b r u e v.0 a m off d o mine
  go_on p q (way.skips_out n r a k m on) inner s v =
      let rest = beside r.form (arms_outs (reach rows t x) rows r) in
      let mine = keep_plain n r Skips a (next_plain r.form k) (acts_in n r Skips (on_of r (next_acts r.form k) (v.1 r a)) (acted_has n r Skips (not_set n r a s) (in_left (act r.form) rest Skips k))) in
      or_left (goes_on (T body) || (T body).skips) (T body).returns (or_right (goes_on (T body)) (T body).skips (skip_out n r v.0 a m on mine))
  go_on p q (way.returns n r a k) inner s v =
      let rest = beside r.form (arms_outs (reach rows t x) rows r) in
      let mine = subst (λ (o : Outs). Has o Returns) (sym (T_of n r a)) (caught_returns r.form (inner_of n r) (acts_in n r Returns (on_of r (return_acts r.form k) (v.1 r a)) (acted_has n r Returns (not_set n r a s) (in_left (act r.form) rest Returns k)))) in
      or_right (goes_on (T body) || (T body).skips) (T body).returns (climb Returns tt caught_returns n v.0 mine)
  go_on p q (way.runs n b r a k) inner s v = into n b r v.0 a (in_arm k (on_of r (arm_acts rows r b k) (v.1 r a)) (not_set n r a s))
  go_on p q (way.repeats n b r e a k again) inner s v = v.0
  go_on p q (way.done n b r e g a k apart) inner s v =
      let h = from_arm b v.0 inner n r a k in
      let all = arms_outs (reach rows t x) rows r in
      let end = passed (runs_apart r.form) (jumps all) (either all) (Ends g) apart (both_either all g (ends_on all e (arms_in r b (Ends e) k v.1))) in
      (h.0, own_ends n r (Ends g) a h.1 g refl (acted_has n r (Ends g) h.2 (in_right (act r.form) (beside r.form all) (Ends g) end)))
  go_on p q (way.over e) inner s v = or_left (goes_on (T body) || (T body).skips) (T body).returns (or_left (goes_on (T body)) (T body).skips (ends_on (T body) e v.1))

  along : (k : ℕ) (p q : Point) (w : Way rows scope body k p q) → Reached p → IsSetOn rows scope body x k p q w ⊎ Reached q
  along zero p q w v = inr (subst Reached w v)
  along (suc k) p q w v =
      ⊎_elim (λ (s : sets rows scope body x p ≡ true). inl (inl s))
      (λ (s : sets rows scope body x p ≡ false).
      ⊎_elim (λ (i : IsSetOn rows scope body x k w.0 q w.2). inl (inr i)) (λ (u : Reached q). inr u) (along k w.0 q w.2 (go_on p w.0 w.1.0 w.1.1 s v)))
      (bool_cases (sets rows scope body x p))

  found_in : (n : NodeId) (r : Row) (j : ℕ) → IsRow rows n r → t n ≡ Some j → AtAct r → Has (inner_of n r) (Found j)
  found_in n r j a g (inl on) = acts_in n r (Found j) on (acted_found n r j g)
  found_in n r j a g (inr d) =
      subst (λ (o : Outs). Has o (Found j)) (sym (inner_test rows t x (forward rows arena) n r d.2))
      (in_tested_here t n r.form (outs_at r) d.1 j g (subst (λ (o : Outs). Has o (Ends d.1)) (sym (at_head r 0 d.0 d.3)) d.4))

  found_at : (n : NodeId) (j : ℕ) → t n ≡ Some j → Reached (Acts n) → Has (T body) (Found j)
  found_at n j g v =
      let s = visited_row n v.0 in
      climb (Found j) tt (caught_found j) n v.0 (subst (λ (o : Outs). Has o (Found j)) (sym (T_of n s.0 s.1)) (caught_found j s.0.form (inner_of n s.0) (found_in n s.0 j s.1 g (v.1 s.0 s.1))))

  -- where nothing of at most its rank is found, each way to a node has an assignment
  pub no_way : (n : NodeId) (j : ℕ) → t n ≡ Some j → within j (T body).found ≡ false → (k : ℕ) (w : Way rows scope body k (Before body) (Acts n)) → IsSetOn rows scope body x k (Before body) (Acts n) w
  no_way n j g off k w =
      ⊎_elim (λ (s : IsSetOn rows scope body x k (Before body) (Acts n) w). s)
      (λ (v : Reached (Acts n)). absurd (not_both (within j (T body).found) (found_at n j g v) off))
      (along k (Before body) (Acts n) w (start body refl))

  pub no_way_end : reaches_end (T body) ≡ false → (k : ℕ) (w : Way rows scope body k (Before body) End) → IsSetOn rows scope body x k (Before body) End w
  no_way_end off k w =
      ⊎_elim (λ (s : IsSetOn rows scope body x k (Before body) End w). s)
      (λ (v : Reached End). absurd (not_both (reaches_end (T body)) v off))
      (along k (Before body) End w (start body refl))

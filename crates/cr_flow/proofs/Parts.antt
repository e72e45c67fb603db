-- Where the parts of rows stand: each behind its row, in what the row puts around it, and in one place alone.
use Rattle.std.proofs.Common.{◌≡◌, ℕ, zero, suc, ◌+◌, ◌-◌, ◌<◌, ◌≤◌, ◌⊎◌, inl, inr, ⊎_elim, Bool, true, false, List, [], ◌∷◌, length, Option, Some, None, refl, sym, ap, ◌∙◌, subst, arith}
use Rattle.std.specs.Prelude.{slice_get, take, if◌then◌else◌, ◌||◌}
use Rattle.std.proofs.lemmas.Option.{same_Some, slice_get_within}
use Rattle.cr_base.specs.declared.ids.NodeId.{NodeId}
use Rattle.cr_core.specs.declared.form.Form.{Form}
use Rattle.cr_core.specs.declared.form.Form.TheVariants as f
use Rattle.cr_core.specs.declared.form.ScopeId.{ScopeId}
use Rattle.cr_core.specs.declared.row.Row.{Row}
use Rattle.cr_core.specs.declared.row.Within.{Within}
use Rattle.cr_core.specs.Shape.{Role}
use Rattle.cr_core.specs.Arena.{node_id, Opening, Opens, Turns, Plain, opening, inside_opening, inside}
use Rattle.cr_core.specs.Standing.{AreParts, IsArena}
use Rattle.cr_flow.specs.Control.{has_arm, is_clause, is_choice, ends_apart, heads, last}
use Rattle.cr_flow.specs.Ways as way
use Rattle.cr_flow.specs.Ways.{IsRow, IsHead, IsLast, IsArm}
use Rattle.cr_flow.specs.Chain.{parent_in, IsBehind, IsForward}
use Rattle.cr_flow.proofs.Exits.{or_left, or_right}
use Rattle.cr_flow.proofs.Reaching.{first_is}

pub lt-or-le : (a b : ℕ) → (a < b) ⊎ (b ≤ a)
lt-or-le a zero = inr (omega arith)
lt-or-le zero (suc b) = inl (omega arith)
lt-or-le (suc a) (suc b) = ⊎_elim (λ (h : a < b). inl (omega (arith, h))) (λ (h : b ≤ a). inr (omega (arith, h))) (lt-or-le a b)

pub node_same : (n m : NodeId) → n.0 ≡ m.0 → n ≡ m
node_same n m e = ap node_id e

abbrev pub scope_id : ℕ → ScopeId
scope_id k = record { 0 = k }

pub scope_same : (k j : ScopeId) → k.0 ≡ j.0 → k ≡ j
scope_same k j e = ap scope_id e

pub not_both : (b : Bool) → b ≡ true → b ≡ false → ⊥
not_both true e h = absurd (cc)
not_both false e h = absurd (cc)

-- the front of a list
pub front_get : (xs : List NodeId) (k i : ℕ) (c : NodeId) → slice_get (take k xs) i ≡ Some c → (slice_get xs i ≡ Some c) × (i < k)
front_get [] zero i c e = absurd (cc)
front_get (y ∷ xs) zero i c e = absurd (cc)
front_get [] (suc k) i c e = absurd (cc)
front_get (y ∷ xs) (suc k) zero c e = (e, omega arith)
front_get (y ∷ xs) (suc k) (suc i) c e = let h = front_get xs k i c e in (h.0, omega (arith, h.1))

-- parts in their order
parts_at : (rs : List Row) (w : Within) (low : ℕ) (ps : List NodeId) (ks : List Role) → AreParts rs w low ps ks → (i : ℕ) (c : NodeId) → slice_get ps i ≡ Some c → (row : Row) × (slice_get rs c.0 ≡ Some row) × (low ≤ c.0) × (row.within ≡ w)
parts_at rs w low [] [] h i c e = absurd (cc)
parts_at rs w low [] (k ∷ ks) h i c e = absurd h
parts_at rs w low (p ∷ ps) [] h i c e = absurd h
parts_at rs w low (p ∷ ps) (k ∷ ks) h zero c e = let s : p ≡ c = cc in subst (λ (v : NodeId). (row : Row) × (slice_get rs v.0 ≡ Some row) × (low ≤ v.0) × (row.within ≡ w)) s (h.1.row, h.1.stands, h.0, h.1.surrounded)
parts_at rs w low (p ∷ ps) (k ∷ ks) h (suc i) c e = let m = parts_at rs w (suc p.0) ps ks h.2 i c e in let l = h.0 in let u = m.2 in (m.0, m.1, omega (arith, l, u), m.3)

parts_rise : (rs : List Row) (w : Within) (low : ℕ) (ps : List NodeId) (ks : List Role) → AreParts rs w low ps ks → (i j : ℕ) (c d : NodeId) → slice_get ps i ≡ Some c → slice_get ps j ≡ Some d → i < j → c.0 < d.0
parts_rise rs w low [] [] h i j c d e g lt = absurd (cc)
parts_rise rs w low [] (k ∷ ks) h i j c d e g lt = absurd h
parts_rise rs w low (p ∷ ps) [] h i j c d e g lt = absurd h
parts_rise rs w low (p ∷ ps) (k ∷ ks) h i zero c d e g lt = absurd (omega (arith, lt))
parts_rise rs w low (p ∷ ps) (k ∷ ks) h zero (suc j) c d e g lt =
    let s : p ≡ c = cc in let m = parts_at rs w (suc p.0) ps ks h.2 j d g in let u = m.2 in
    subst (λ (v : NodeId). v.0 < d.0) s (omega (arith, u))
parts_rise rs w low (p ∷ ps) (k ∷ ks) h (suc i) (suc j) c d e g lt = parts_rise rs w (suc p.0) ps ks h.2 i j c d e g (omega (arith, lt))

-- what stands around a part
parent_of : (o : Opening) (n : ℕ) (w : Within) → (inside_opening o n w).parent ≡ Some (node_id n)
parent_of (Opens scope) n w = refl
parent_of Turns n w = refl
parent_of Plain n w = refl

choice_plain : (form : Form) → is_choice form ≡ true → opening form ≡ Plain
choice_plain (f.Select otherwise) e = refl
choice_plain form e = absurd (cc)

clause_plain : (form : Form) → is_clause form ≡ true → opening form ≡ Plain
clause_plain f.Send e = refl
clause_plain f.Receive e = refl
clause_plain f.ReceiveOrNil e = refl
clause_plain form e = absurd (cc)

arm_no_clause : (form : Form) → has_arm form ≡ true → is_clause form ≡ true → ⊥
arm_no_clause f.Send a e = absurd (cc)
arm_no_clause f.Receive a e = absurd (cc)
arm_no_clause f.ReceiveOrNil a e = absurd (cc)
arm_no_clause form a e = absurd (cc)

-- a part of row n, at this place
pub record IsInside (rows : List Row) (n : NodeId) (r : Row) (c : NodeId) : Type 0 where
  pub row : Row
  pub stands : IsRow rows c row
  pub later : n.0 < c.0
  pub around : row.within ≡ inside r.form n.0 r.within

-- what an evaluation of row n enters
pub record IsChild (rows : List Row) (n : NodeId) (r : Row) (c : NodeId) : Type 0 where
  pub row : Row
  pub stands : IsRow rows c row
  pub later : n.0 < c.0
  pub turn : row.within.turn ≡ (inside r.form n.0 r.within).turn
  pub scope : row.within.scope ≡ (inside r.form n.0 r.within).scope

module _ (rows : List Row) (arena : IsArena rows) where
  pub same_row : (n : NodeId) (r s : Row) → IsRow rows n r → IsRow rows n s → r ≡ s
  same_row n r s a b = same_Some r s (sym a ∙ b)

  pub inside_of : (n : NodeId) (r : Row) (i : ℕ) (c : NodeId) → IsRow rows n r → slice_get r.parts i ≡ Some c → IsInside rows n r c
  inside_of n r i c a e =
      let h = arena.each n.0 r a in let m = parts_at rows (inside r.form n.0 r.within) (suc n.0) r.parts h.there_for h.parts i c e in let u = m.2 in
      record { row = m.0; stands = m.1; later = omega (arith, u); around = m.3 }

  same_place : (n : NodeId) (r : Row) (i j : ℕ) (c : NodeId) → IsRow rows n r → slice_get r.parts i ≡ Some c → slice_get r.parts j ≡ Some c → i ≡ j
  same_place n r i j c a e g =
      let h = arena.each n.0 r a in
      let rise = parts_rise rows (inside r.form n.0 r.within) (suc n.0) r.parts h.there_for h.parts in
      ⊎_elim (λ (l : i < j). let u = rise i j c c e g l in absurd (omega (arith, u)))
      (λ (l : j ≤ i). ⊎_elim (λ (m : j < i). let u = rise j i c c g e m in absurd (omega (arith, u))) (λ (m : i ≤ j). omega (arith, l, m)) (lt-or-le j i))
      (lt-or-le i j)

  pub one_parent : (n m : NodeId) (r s : Row) (c : NodeId) → IsInside rows n r c → IsInside rows m s c → n ≡ m
  one_parent n m r s c a b =
      let q = same_row c a.row b.row a.stands b.stands in
      let up = sym (parent_of (opening r.form) n.0 r.within) ∙ ap (λ (w : Within). w.parent) (sym a.around) ∙ ap (λ (v : Row). v.within.parent) q ∙ ap (λ (w : Within). w.parent) b.around ∙ parent_of (opening s.form) m.0 s.within in
      node_same n m (ap (λ (v : NodeId). v.0) (same_Some (node_id n.0) (node_id m.0) up))

  -- a part that is taken in order
  pub head_part : (r : Row) (i : ℕ) (c : NodeId) → IsHead r i c → (slice_get r.parts i ≡ Some c) × (ends_apart r.form ≡ true → i < length r.parts - 1)
  head_part r i c h = by (ends_apart r.form) h
    where
      by : (b : Bool) → slice_get (if b then take (length r.parts - 1) r.parts else r.parts) i ≡ Some c → (slice_get r.parts i ≡ Some c) × (b ≡ true → i < length r.parts - 1)
      by true h = let g = front_get r.parts (length r.parts - 1) i c h in (g.0, λ e. g.1)
      by false h = (h, λ e. absurd (cc))

  pub head_inside : (n : NodeId) (r : Row) (i : ℕ) (c : NodeId) → IsRow rows n r → IsHead r i c → IsInside rows n r c
  head_inside n r i c a h = inside_of n r i c a (head_part r i c h).0

  pub last_inside : (n : NodeId) (r : Row) (c : NodeId) → IsRow rows n r → IsLast r c → IsInside rows n r c
  last_inside n r c a h = inside_of n r (length r.parts - 1) c a h

  not_last : (n m : NodeId) (r s : Row) (i : ℕ) (c : NodeId) → IsRow rows n r → IsHead r i c → IsRow rows m s → IsLast s c → ends_apart s.form ≡ true → ⊥
  not_last n m r s i c a h b l apart =
      let e = one_parent n m r s c (head_inside n r i c a h) (last_inside m s c b l) in
      let q = same_row m r s (subst (λ (v : NodeId). IsRow rows v r) e a) b in
      let g = head_part r i c h in
      let place = same_place m s i (length s.parts - 1) c b (subst (λ (v : Row). slice_get v.parts i ≡ Some c) q g.0) l in
      let below = subst (λ (v : Row). ends_apart v.form ≡ true → i < length v.parts - 1) q g.1 apart in
      omega (arith, place, below)

  pub head_no_arm : (n m : NodeId) (r s : Row) (i : ℕ) (c : NodeId) → IsRow rows n r → IsHead r i c → IsRow rows m s → IsArm rows s c → ⊥
  head_no_arm n m r s i c a h b (way.own v l) = not_last n m r s i c a h b l (or_left (has_arm s.form) (is_clause s.form) v)
  head_no_arm n m r s i c a h b (way.clause j d q v k e g l) = not_last n d r q i c a h e l (or_right (has_arm q.form) (is_clause q.form) g)

  -- each node is entered from one row alone
  pub same_head : (n m : NodeId) (r s : Row) (i j : ℕ) (c : NodeId) → IsRow rows n r → IsHead r i c → IsRow rows m s → IsHead s j c → (n ≡ m) × (r ≡ s) × (i ≡ j)
  same_head n m r s i j c a h b g =
      let e = one_parent n m r s c (head_inside n r i c a h) (head_inside m s j c b g) in
      let q = same_row m r s (subst (λ (v : NodeId). IsRow rows v r) e a) b in
      (e, q, same_place m s i j c b (subst (λ (v : Row). slice_get v.parts i ≡ Some c) q (head_part r i c h).0) (head_part s j c g).0)

  pub same_arm : (n m : NodeId) (r s : Row) (c : NodeId) → IsRow rows n r → IsArm rows r c → IsRow rows m s → IsArm rows s c → n ≡ m
  same_arm n m r s c a (way.own v l) b (way.own w k) = one_parent n m r s c (last_inside n r c a l) (last_inside m s c b k)
  same_arm n m r s c a (way.own v l) b (way.clause j d q w k e g o) =
      let p = one_parent n d r q c (last_inside n r c a l) (last_inside d q c e o) in
      let same = same_row d r q (subst (λ (v : NodeId). IsRow rows v r) p a) e in
      absurd (arm_no_clause q.form (subst (λ (v : Row). has_arm v.form ≡ true) same v) g)
  same_arm n m r s c a (way.clause j d q w k e g o) b (way.own v l) =
      let p = one_parent m d s q c (last_inside m s c b l) (last_inside d q c e o) in
      let same = same_row d s q (subst (λ (v : NodeId). IsRow rows v s) p b) e in
      absurd (arm_no_clause q.form (subst (λ (v : Row). has_arm v.form ≡ true) same v) g)
  same_arm n m r s c a (way.clause j d q w k e g o) b (way.clause j2 d2 q2 w2 k2 e2 g2 o2) =
      let p = one_parent d d2 q q2 c (last_inside d q c e o) (last_inside d2 q2 c e2 o2) in
      (same_head n m r s j j2 d2 a (subst (λ (v : NodeId). IsHead r j v) p k) b k2).0

  pub head_child : (n : NodeId) (r : Row) (i : ℕ) (c : NodeId) → IsRow rows n r → IsHead r i c → IsChild rows n r c
  head_child n r i c a h = let w = head_inside n r i c a h in record { row = w.row; stands = w.stands; later = w.later; turn = ap (λ (v : Within). v.turn) w.around; scope = ap (λ (v : Within). v.scope) w.around }

  turn_plain : (form : Form) (n : ℕ) (w : Within) → opening form ≡ Plain → ((inside form n w).turn ≡ w.turn) × ((inside form n w).scope ≡ w.scope)
  turn_plain form n w e = (ap (λ (o : Opening). (inside_opening o n w).turn) e, ap (λ (o : Opening). (inside_opening o n w).scope) e)

  pub arm_child : (n : NodeId) (r : Row) (b : NodeId) → IsRow rows n r → IsArm rows r b → IsChild rows n r b
  arm_child n r b a (way.own v l) = let w = last_inside n r b a l in record { row = w.row; stands = w.stands; later = w.later; turn = ap (λ (v : Within). v.turn) w.around; scope = ap (λ (v : Within). v.scope) w.around }
  arm_child n r b a (way.clause j d q v k e g l) =
      let w = last_inside d q b e l in let u = head_inside n r j d a k in
      let same = same_row d u.row q u.stands e in
      let around : q.within ≡ inside r.form n.0 r.within = subst (λ (v : Row). v.within ≡ inside r.form n.0 r.within) same u.around in
      let plain = turn_plain q.form d.0 q.within (clause_plain q.form g) in
      let l1 = w.later in let l2 = u.later in
      record {
        row = w.row;
        stands = w.stands;
        later = omega (arith, l1, l2);
        turn = ap (λ (v : Within). v.turn) w.around ∙ plain.0 ∙ ap (λ (v : Within). v.turn) around;
        scope = ap (λ (v : Within). v.scope) w.around ∙ plain.1 ∙ ap (λ (v : Within). v.scope) around;
      }

  pub there : (c : NodeId) (s : Row) → IsRow rows c s → c.0 < length rows
  there c s e = slice_get_within rows c.0 s e

  behind_of : (n c : NodeId) (r : Row) → IsInside rows n r c → IsBehind rows n c
  behind_of n c r w = record { later = w.later; there = there c w.row w.stands }

  up_of : (n c : NodeId) (r : Row) → IsInside rows n r c → parent_in (slice_get rows c.0) ≡ Some n
  up_of n c r w = ap parent_in w.stands ∙ ap (λ (v : Within). v.parent) w.around ∙ parent_of (opening r.form) n.0 r.within ∙ ap Some (node_same (node_id n.0) n refl)

  pub forward : IsForward rows
  forward = record {
    heads = λ n c i r a e. behind_of n c r (head_inside n r i c a e);
    lasts = λ n c r a e. behind_of n c r (last_inside n r c a e);
    parts = λ n c i r a e. behind_of n c r (inside_of n r i c a e);
    up = λ n c e. let s = first_is rows n c e in up_of n c s.0 (head_inside n s.0 0 c s.1 s.3);
  }

-- What a row leads to, by what its parts lead to.
use Rattle.std.proofs.Common.{◌≡◌, ℕ, zero, suc, ◌+◌, ◌-◌, ◌<◌, ◌≤◌, ◌⊎◌, inl, inr, Bool, true, false, List, [], ◌∷◌, length, Option, Some, None, refl, sym, ap, ◌∙◌, subst, arith}
use Rattle.std.specs.Prelude.{slice_get, map, if◌then◌else◌, ◌||◌}
use Rattle.std.proofs.lemmas.Option.{slice_get_within, same_Some}
use Rattle.cr_base.specs.declared.ids.NodeId.{NodeId}
use Rattle.cr_core.specs.declared.form.Form.{Form}
use Rattle.cr_core.specs.declared.form.Form.TheVariants as f
use Rattle.cr_core.specs.declared.row.Row.{Row}
use Rattle.cr_flow.specs.declared.variable.Variable.{Variable}
use Rattle.cr_flow.specs.declared.outs.Outs.{Outs}
use Rattle.cr_core.specs.Arena.{Opening, Plain, opening}
use Rattle.cr_flow.specs.declared.chain.Trail.{Trail}
use Rattle.cr_flow.specs.Control.{is_test, is_clause, is_choice, has_arm, heads, last, behind}
use Rattle.cr_flow.specs.Ways.{IsRow, IsHead}
use Rattle.cr_flow.specs.Chain.{statement_of, condition_of, trail_of, trail_in, first_in, parent_in, LeadsTo, stays, down, IsBehind, IsForward}
use Rattle.std.proofs.lemmas.Bool.Decides.{nat_tests}
use Rattle.cr_flow.specs.Outs.{lower, least, none, join, also, goes_on, jumps, either, here, decided, led, leads_on, finished, chain, acted, tested, at_node, own_outs, clause_outs, clauses_outs, arms_outs, inner, caught_by, caught, outs_in, outs_to, reach}

pub map_same : (g k : NodeId → Outs) (ps : List NodeId) → ((i : ℕ) (c : NodeId) → slice_get ps i ≡ Some c → g c ≡ k c) → map g ps ≡ map k ps
map_same g k [] h = refl
map_same g k (p ∷ ps) h = let a = h 0 p refl in let b = map_same g k ps (λ i c e. h (suc i) c e) in cc

pub clauses_same : (g k : NodeId → Outs) (rows : List Row) (all : Outs) (cs : List NodeId) → ((i : ℕ) (c : NodeId) → slice_get cs i ≡ Some c → clause_outs g (slice_get rows c.0) ≡ clause_outs k (slice_get rows c.0)) → clauses_outs g rows all cs ≡ clauses_outs k rows all cs
clauses_same g k rows all [] h = refl
clauses_same g k rows all (c ∷ cs) h =
    ap (λ (o : Outs). clauses_outs g rows (join all o) cs) (h 0 c refl) ∙ clauses_same g k rows (join all (clause_outs k (slice_get rows c.0))) cs (λ i d e. h (suc i) d e)

module _ (rows : List Row) (t : NodeId → Option ℕ) (x : Variable) (h : IsForward rows) where
  abbrev SameBehind : (NodeId → Outs) → (NodeId → Outs) → NodeId → Type 0
  SameBehind g k n = (c : NodeId) → n.0 < c.0 → c.0 < length rows → g c ≡ k c

  last_same : (g k : NodeId → Outs) (n : NodeId) (r : Row) → slice_get rows n.0 ≡ Some r → SameBehind g k n → at_node g (last r.parts) ≡ at_node k (last r.parts)
  last_same g k n r is e = by (last r.parts) refl
    where
      by : (o : Option NodeId) → last r.parts ≡ o → at_node g o ≡ at_node k o
      by None w = refl
      by (Some c) w = let m = h.lasts n c r is w in e c m.later m.there

  own_same : (g k : NodeId → Outs) (n : NodeId) (r : Row) → slice_get rows n.0 ≡ Some r → SameBehind g k n → own_outs g r ≡ own_outs k r
  own_same g k n r is e = ap (λ (o : Outs). if has_arm r.form then o else none) (last_same g k n r is e)

  clause_same : (g k : NodeId → Outs) (n c : NodeId) → n.0 < c.0 → SameBehind g k n → (o : Option Row) → slice_get rows c.0 ≡ o → clause_outs g o ≡ clause_outs k o
  clause_same g k n c lt e None is = refl
  clause_same g k n c lt e (Some s) is = ap (λ (o : Outs). if is_clause s.form then o else none) (last_same g k c s is (λ d later in_rows. e d (omega (arith, lt, later)) in_rows))

  arms_same : (g k : NodeId → Outs) (n : NodeId) (r : Row) → slice_get rows n.0 ≡ Some r → SameBehind g k n → arms_outs g rows r ≡ arms_outs k rows r
  arms_same g k n r is e =
      let a = own_same g k n r is e in
      let b = clauses_same g k rows (own_outs g r) (heads r.form r.parts) (λ i c at. let m = h.heads n c i r is at in clause_same g k n c m.later e (slice_get rows c.0) refl) in
      ap (λ (o : Outs). if is_choice r.form then o else own_outs g r) b
      ∙ ap (λ (o : Outs). if is_choice r.form then clauses_outs k rows o (heads r.form r.parts) else o) a

  in_same : (g k : NodeId → Outs) (n : NodeId) (o : Option Row) → slice_get rows n.0 ≡ o → SameBehind g k n → outs_in g rows t x n o ≡ outs_in k rows t x n o
  in_same g k n None is e = refl
  in_same g k n (Some r) is e =
      let hs = heads r.form r.parts in
      let a = map_same g k hs (λ i c at. let m = h.heads n c i r is at in e c m.later m.there) in
      let b = arms_same g k n r is e in
      ap (λ (os : List Outs). caught r.form (if is_test r.form then tested (t n) r.form os else chain none (acted (t n) x r.form (arms_outs g rows r)) os)) a
      ∙ ap (λ (o : Outs). caught r.form (if is_test r.form then tested (t n) r.form (map k hs) else chain none (acted (t n) x r.form o) (map k hs))) b

  deep : (j k : ℕ) (n : NodeId) → n.0 < length rows → length rows ≤ j + n.0 → length rows ≤ k + n.0 → outs_to j rows t x n ≡ outs_to k rows t x n
  deep zero k n lt a b = absurd (omega (arith, lt, a))
  deep (suc j) zero n lt a b = absurd (omega (arith, lt, b))
  deep (suc j) (suc k) n lt a b =
      in_same (outs_to j rows t x) (outs_to k rows t x) n (slice_get rows n.0) refl (λ p np pc. deep j k p pc (omega (arith, a, np)) (omega (arith, b, np)))

  below : (k : ℕ) (n : NodeId) → n.0 < length rows → suc k ≡ length rows - n.0 → reach rows t x n ≡ outs_in (reach rows t x) rows t x n (slice_get rows n.0)
  unfolding reach
  below k n lt e =
      ap (λ (d : ℕ). outs_to d rows t x n) (sym e)
      ∙ in_same (outs_to k rows t x) (λ p. outs_to (length rows - p.0) rows t x p) n (slice_get rows n.0) refl (λ p np pc. deep k (length rows - p.0) p pc (omega (arith, e, np, lt)) (omega (arith, pc)))

  pub reach_some : (n : NodeId) (r : Row) → slice_get rows n.0 ≡ Some r → reach rows t x n ≡ caught r.form (inner (reach rows t x) rows t x n r)
  reach_some n r is =
      let lt = slice_get_within rows n.0 r is in let e : suc (length rows - n.0 - 1) ≡ length rows - n.0 = omega (arith, lt) in
      below (length rows - n.0 - 1) n lt e ∙ ap (outs_in (reach rows t x) rows t x n) is

  none_to : (k : ℕ) (n : NodeId) → slice_get rows n.0 ≡ None → outs_to k rows t x n ≡ none
  none_to zero n e = refl
  none_to (suc k) n e = ap (outs_in (outs_to k rows t x) rows t x n) e

  pub reach_none : (n : NodeId) → slice_get rows n.0 ≡ None → reach rows t x n ≡ none
  unfolding reach
  reach_none n e = none_to (length rows - n.0) n e

  -- of a condition, and of any other node
  pub inner_test : (n : NodeId) (r : Row) → is_test r.form ≡ true → inner (reach rows t x) rows t x n r ≡ tested (t n) r.form (map (reach rows t x) (heads r.form r.parts))
  inner_test n r b = ap (λ (v : Bool). if v then tested (t n) r.form (map (reach rows t x) (heads r.form r.parts)) else chain none (acted (t n) x r.form (arms_outs (reach rows t x) rows r)) (map (reach rows t x) (heads r.form r.parts))) b

  pub inner_plain : (n : NodeId) (r : Row) → is_test r.form ≡ false → inner (reach rows t x) rows t x n r ≡ chain none (acted (t n) x r.form (arms_outs (reach rows t x) rows r)) (map (reach rows t x) (heads r.form r.parts))
  inner_plain n r b = ap (λ (v : Bool). if v then tested (t n) r.form (map (reach rows t x) (heads r.form r.parts)) else chain none (acted (t n) x r.form (arms_outs (reach rows t x) rows r)) (map (reach rows t x) (heads r.form r.parts))) b

  pub reach_test : (n : NodeId) (r : Row) → slice_get rows n.0 ≡ Some r → is_test r.form ≡ true → reach rows t x n ≡ caught r.form (tested (t n) r.form (map (reach rows t x) (heads r.form r.parts)))
  reach_test n r is b = reach_some n r is ∙ ap (caught r.form) (inner_test n r b)

  pub reach_plain : (n : NodeId) (r : Row) → slice_get rows n.0 ≡ Some r → is_test r.form ≡ false → reach rows t x n ≡ caught r.form (chain none (acted (t n) x r.form (arms_outs (reach rows t x) rows r)) (map (reach rows t x) (heads r.form r.parts)))
  reach_plain n r is b = reach_some n r is ∙ ap (caught r.form) (inner_plain n r b)

-- joins
or_same : (a b : Bool) → ((a || b) || b) ≡ (a || b)
or_same true b = refl
or_same false true = refl
or_same false false = refl

or_more : (a b c : Bool) → ((a || b) || c) ≡ (a || (b || c))
or_more true b c = refl
or_more false b c = refl

lower_same : (a b : ℕ) → lower (lower a b) b ≡ lower a b
lower_same a b = grind (arith, nat_tests)

lower_more : (a b c : ℕ) → lower (lower a b) c ≡ lower a (lower b c)
lower_more a b c = grind (arith, nat_tests)

lower_self : (a : ℕ) → lower a a ≡ a
lower_self a = grind (arith, nat_tests)

least_same : (a b : Option ℕ) → least (least a b) b ≡ least a b
least_same None None = refl
least_same None (Some b) = ap Some (lower_self b)
least_same (Some a) None = refl
least_same (Some a) (Some b) = ap Some (lower_same a b)

least_more : (a b c : Option ℕ) → least (least a b) c ≡ least a (least b c)
least_more None b c = refl
least_more (Some a) None c = refl
least_more (Some a) (Some b) None = refl
least_more (Some a) (Some b) (Some c) = ap Some (lower_more a b c)

outs_made : (f1 f2 : Option ℕ) (y1 y2 n1 n2 l1 l2 s1 s2 r1 r2 : Bool) → f1 ≡ f2 → y1 ≡ y2 → n1 ≡ n2 → l1 ≡ l2 → s1 ≡ s2 → r1 ≡ r2 → ◌≡◌ {A = Outs} (record { found = f1; yes = y1; no = n1; leaves = l1; skips = s1; returns = r1 }) (record { found = f2; yes = y2; no = n2; leaves = l2; skips = s2; returns = r2 })
outs_made f1 f2 y1 y2 n1 n2 l1 l2 s1 s2 r1 r2 e1 e2 e3 e4 e5 e6 = cc

outs_same : (a b : Outs) → a.found ≡ b.found → a.yes ≡ b.yes → a.no ≡ b.no → a.leaves ≡ b.leaves → a.skips ≡ b.skips → a.returns ≡ b.returns → a ≡ b
outs_same a b e1 e2 e3 e4 e5 e6 = outs_made a.found b.found a.yes b.yes a.no b.no a.leaves b.leaves a.skips b.skips a.returns b.returns e1 e2 e3 e4 e5 e6

join_same : (a b : Outs) → join (join a b) b ≡ join a b
join_same a b = outs_same (join (join a b) b) (join a b) (least_same a.found b.found) (or_same a.yes b.yes) (or_same a.no b.no) (or_same a.leaves b.leaves) (or_same a.skips b.skips) (or_same a.returns b.returns)

join_more : (a b c : Outs) → join (join a b) c ≡ join a (join b c)
join_more a b c = outs_same (join (join a b) c) (join a (join b c)) (least_more a.found b.found c.found) (or_more a.yes b.yes c.yes) (or_more a.no b.no c.no) (or_more a.leaves b.leaves c.leaves) (or_more a.skips b.skips c.skips) (or_more a.returns b.returns c.returns)

-- what ends with either outcome or with none
abbrev IsEven : Outs → Type 0
IsEven o = o.yes ≡ o.no

or_self : (v : Bool) → (v || v) ≡ v
or_self true = refl
or_self false = refl

either_even : (o : Outs) → IsEven o → either o ≡ o
either_even o e =
    outs_same (either o) o refl (ap (λ (v : Bool). o.yes || v) (sym e) ∙ or_self o.yes) (ap (λ (v : Bool). v || o.no) e ∙ or_self o.no) refl refl refl

join_even : (a b : Outs) → IsEven a → IsEven b → IsEven (join a b)
join_even a b e g = ap (λ (v : Bool). v || b.yes) e ∙ ap (λ (v : Bool). a.no || v) g

also_even : (b : Bool) (a o : Outs) → IsEven a → IsEven o → IsEven (also b a o)
also_even true a o e g = join_even a o e g
also_even false a o e g = e

decided_even : (t : NodeId → Option ℕ) (n : NodeId) (c : Outs) → IsEven (decided (t n) c)
decided_even t n c = also_even (goes_on c) (jumps c) (here (t n)) refl refl

led_even : (t : NodeId → Option ℕ) (n : NodeId) (g : NodeId → Outs) (c : Outs) (branch : Option NodeId) → IsEven (led (t n) g c branch)
led_even t n g c None = decided_even t n c
led_even t n g c (Some a) = also_even c.yes (decided (t n) c) (either (g a)) (decided_even t n c) refl

-- rows that go on as their last part
abbrev trailed : Bool → Outs → Outs → Outs
trailed v a o = if v then join a (either o) else a

statement_tested : (t : NodeId → Option ℕ) (n : NodeId) (a b : Outs) → tested (t n) f.Seq (a ∷ b ∷ []) ≡ trailed (goes_on a) (decided (t n) a) b
statement_tested t n a b = by a.yes a.no
  where
    by : (y v : Bool) → also v (also y (also (y || v) (jumps a) (here (t n))) (either b)) (either b) ≡ (if y || v then join (also (y || v) (jumps a) (here (t n))) (either b) else also (y || v) (jumps a) (here (t n)))
    by true true = join_same (join (jumps a) (here (t n))) (either b)
    by true false = refl
    by false true = refl
    by false false = refl

abbrev IsTrail : Row → Trail → Type 0
IsTrail r w = ((r.form ≡ f.Seq) × (r.parts ≡ w.first ∷ w.rest ∷ []) × (w.branch ≡ None)) ⊎ ((a : NodeId) × (r.form ≡ f.If) × (r.parts ≡ w.first ∷ a ∷ w.rest ∷ []) × (w.branch ≡ Some a))

statement_parts : (ps : List NodeId) (w : Trail) → statement_of ps ≡ Some w → (ps ≡ w.first ∷ w.rest ∷ []) × (w.branch ≡ None)
statement_parts [] w e = absurd (cc)
statement_parts (a ∷ []) w e = absurd (cc)
statement_parts (a ∷ b ∷ []) w e = let s : record { first = a; branch = None; rest = b } ≡ w = same_Some _ w e in (ap (λ (v : Trail). v.first ∷ v.rest ∷ []) s, sym (ap (λ (v : Trail). v.branch) s))
statement_parts (a ∷ b ∷ c ∷ cs) w e = absurd (cc)

condition_parts : (ps : List NodeId) (w : Trail) → condition_of ps ≡ Some w → (a : NodeId) × (ps ≡ w.first ∷ a ∷ w.rest ∷ []) × (w.branch ≡ Some a)
condition_parts [] w e = absurd (cc)
condition_parts (a ∷ []) w e = absurd (cc)
condition_parts (a ∷ b ∷ []) w e = absurd (cc)
condition_parts (a ∷ b ∷ c ∷ []) w e = let s : record { first = a; branch = Some b; rest = c } ≡ w = same_Some _ w e in (b, ap (λ (v : Trail). v.first ∷ b ∷ v.rest ∷ []) s, sym (ap (λ (v : Trail). v.branch) s))
condition_parts (a ∷ b ∷ c ∷ d ∷ ds) w e = absurd (cc)

trail_parts : (r : Row) (w : Trail) → trail_of r.form r.parts ≡ Some w → IsTrail r w
trail_parts r w e = by r.form refl e
  where
    by : (form : Form) → r.form ≡ form → trail_of form r.parts ≡ Some w → IsTrail r w
    by f.Seq k e = let s = statement_parts r.parts w e in inl (k, s.0, s.1)
    by f.If k e = let s = condition_parts r.parts w e in inr (s.0, k, s.1, s.2)
    by form k e = absurd (cc)

module _ (rows : List Row) (t : NodeId → Option ℕ) (x : Variable) (h : IsForward rows) where
  row_of_trail : (n : NodeId) (w : Trail) → trail_in (slice_get rows n.0) ≡ Some w → (r : Row) × (slice_get rows n.0 ≡ Some r) × IsTrail r w
  row_of_trail n w e = by (slice_get rows n.0) refl e
    where
      by : (o : Option Row) → slice_get rows n.0 ≡ o → trail_in o ≡ Some w → (r : Row) × (slice_get rows n.0 ≡ Some r) × IsTrail r w
      by None is e = absurd (cc)
      by (Some r) is e = (r, is, trail_parts r w e)

  pub trail_is : (n : NodeId) (w : Trail) → trail_in (slice_get rows n.0) ≡ Some w → reach rows t x n ≡ trailed (leads_on (reach rows t x w.first) w.branch) (led (t n) (reach rows t x) (reach rows t x w.first) w.branch) (reach rows t x w.rest)
  trail_is n w e = let s = row_of_trail n w e in by s.0 s.1 s.2
    where
      T : NodeId → Outs
      T m = reach rows t x m

      whole : Option NodeId → Outs
      whole branch = trailed (leads_on (reach rows t x w.first) branch) (led (t n) (reach rows t x) (reach rows t x w.first) branch) (reach rows t x w.rest)

      of : (r : Row) (form : Form) (ps : List NodeId) → slice_get rows n.0 ≡ Some r → is_test form ≡ true → opening form ≡ Plain → heads form ps ≡ ps → r.form ≡ form → r.parts ≡ ps → reach rows t x n ≡ tested (t n) form (map (reach rows t x) ps)
      of r form ps is it plain all k p =
          reach_test rows t x h n r is (ap is_test k ∙ it)
          ∙ ap (λ (v : Form). caught v (tested (t n) v (map (reach rows t x) (heads v r.parts)))) k
          ∙ ap (λ (l : List NodeId). caught form (tested (t n) form (map (reach rows t x) (heads form l)))) p
          ∙ ap (λ (o : Opening). caught_by o (tested (t n) form (map (reach rows t x) (heads form ps)))) plain
          ∙ ap (λ (l : List NodeId). tested (t n) form (map (reach rows t x) l)) all

      by : (r : Row) → slice_get rows n.0 ≡ Some r → IsTrail r w → reach rows t x n ≡ trailed (leads_on (reach rows t x w.first) w.branch) (led (t n) (reach rows t x) (reach rows t x w.first) w.branch) (reach rows t x w.rest)
      by r is (inl (k, p, b)) =
          of r f.Seq (w.first ∷ w.rest ∷ []) is refl refl refl k p ∙ statement_tested t n (reach rows t x w.first) (reach rows t x w.rest)
          ∙ ap (λ (branch : Option NodeId). trailed (leads_on (reach rows t x w.first) branch) (led (t n) (reach rows t x) (reach rows t x w.first) branch) (reach rows t x w.rest)) (sym b)
      by r is (inr (a, k, p, b)) =
          of r f.If (w.first ∷ a ∷ w.rest ∷ []) is refl refl refl k p
          ∙ ap (λ (branch : Option NodeId). trailed (leads_on (reach rows t x w.first) branch) (led (t n) (reach rows t x) (reach rows t x w.first) branch) (reach rows t x w.rest)) (sym b)

  pub trail_later : (n : NodeId) (w : Trail) → trail_in (slice_get rows n.0) ≡ Some w → IsBehind rows n w.first × IsBehind rows n w.rest × ((a : NodeId) → w.branch ≡ Some a → IsBehind rows n a)
  trail_later n w e = let s = row_of_trail n w e in by s.0 s.1 s.2
    where
      at : (r : Row) (i : ℕ) (c : NodeId) (ps : List NodeId) → slice_get rows n.0 ≡ Some r → r.parts ≡ ps → slice_get ps i ≡ Some c → IsBehind rows n c
      at r i c ps is p k = h.parts n c i r is (ap (λ (l : List NodeId). slice_get l i) p ∙ k)

      by : (r : Row) → slice_get rows n.0 ≡ Some r → IsTrail r w → IsBehind rows n w.first × IsBehind rows n w.rest × ((a : NodeId) → w.branch ≡ Some a → IsBehind rows n a)
      by r is (inl (k, p, b)) = (at r 0 w.first (w.first ∷ w.rest ∷ []) is p refl, at r 1 w.rest (w.first ∷ w.rest ∷ []) is p refl, λ a q. absurd (cc))
      by r is (inr (a, k, p, b)) = (
        at r 0 w.first (w.first ∷ a ∷ w.rest ∷ []) is p refl,
        at r 2 w.rest (w.first ∷ a ∷ w.rest ∷ []) is p refl,
        λ d q. at r 1 d (w.first ∷ a ∷ w.rest ∷ []) is p (sym b ∙ q),
      )

-- the loop over them
finish_on : (inside : Bool) (all o : Outs) (t : NodeId → Option ℕ) (n : NodeId) (g : NodeId → Outs) (c : Outs) (branch : Option NodeId) → leads_on c branch ≡ true → (inside ≡ false → all ≡ none) → finished inside all (trailed (leads_on c branch) (led (t n) g c branch) o) ≡ join (join all (led (t n) g c branch)) (either o)
finish_on inside all o t n g c branch k p = ap (λ (v : Bool). finished inside all (trailed v (led (t n) g c branch) o)) k ∙ by inside p
  where
    by : (i : Bool) → (i ≡ false → all ≡ none) → finished i all (join (led (t n) g c branch) (either o)) ≡ join (join all (led (t n) g c branch)) (either o)
    by true p = ap (join all) (either_even (join (led (t n) g c branch) (either o)) (join_even (led (t n) g c branch) (either o) (led_even t n g c branch) refl)) ∙ sym (join_more all (led (t n) g c branch) (either o))
    by false p = ap (λ (v : Outs). join (join v (led (t n) g c branch)) (either o)) (sym (p refl))

finish_off : (inside : Bool) (all o : Outs) (t : NodeId → Option ℕ) (n : NodeId) (g : NodeId → Outs) (c : Outs) (branch : Option NodeId) → leads_on c branch ≡ false → (inside ≡ false → all ≡ none) → finished inside all (trailed (leads_on c branch) (led (t n) g c branch) o) ≡ join all (led (t n) g c branch)
finish_off inside all o t n g c branch k p = ap (λ (v : Bool). finished inside all (trailed v (led (t n) g c branch) o)) k ∙ by inside p
  where
    by : (i : Bool) → (i ≡ false → all ≡ none) → finished i all (led (t n) g c branch) ≡ join all (led (t n) g c branch)
    by true p = ap (join all) (either_even (led (t n) g c branch) (led_even t n g c branch))
    by false p = ap (λ (v : Outs). join v (led (t n) g c branch)) (sym (p refl))

module _ (rows : List Row) (t : NodeId → Option ℕ) (x : Variable) (h : IsForward rows) where
  turned : (inside : Bool) (all first whole : Outs) (n : NodeId) (w : Trail) → trail_in (slice_get rows n.0) ≡ Some w → first ≡ reach rows t x w.first → whole ≡ finished inside all (reach rows t x n) → whole ≡ finished inside all (trailed (leads_on first w.branch) (led (t n) (reach rows t x) first w.branch) (reach rows t x w.rest))
  turned inside all first whole n w e f is =
      is ∙ ap (finished inside all) (trail_is rows t x h n w e)
      ∙ ap (λ (o : Outs). finished inside all (trailed (leads_on o w.branch) (led (t n) (reach rows t x) o w.branch) (reach rows t x w.rest))) (sym f)

  pub trail_on : (inside : Bool) (all first whole l more : Outs) (n : NodeId) (w : Trail) → trail_in (slice_get rows n.0) ≡ Some w → first ≡ reach rows t x w.first → whole ≡ finished inside all (reach rows t x n) → leads_on first w.branch ≡ true → (inside ≡ false → all ≡ none) → l ≡ led (t n) (reach rows t x) first w.branch → more ≡ join all l → whole ≡ finished true more (reach rows t x w.rest)
  trail_on inside all first whole l more n w e f is k p m j =
      turned inside all first whole n w e f is ∙ finish_on inside all (reach rows t x w.rest) t n (reach rows t x) first w.branch k p
      ∙ ap (λ (o : Outs). join (join all o) (either (reach rows t x w.rest))) (sym m) ∙ ap (λ (o : Outs). join o (either (reach rows t x w.rest))) (sym j)

  pub trail_off : (inside : Bool) (all first whole l more : Outs) (n : NodeId) (w : Trail) → trail_in (slice_get rows n.0) ≡ Some w → first ≡ reach rows t x w.first → whole ≡ finished inside all (reach rows t x n) → leads_on first w.branch ≡ false → (inside ≡ false → all ≡ none) → l ≡ led (t n) (reach rows t x) first w.branch → more ≡ join all l → more ≡ whole
  trail_off inside all first whole l more n w e f is k p m j =
      j ∙ ap (join all) m ∙ sym (turned inside all first whole n w e f is ∙ finish_off inside all (reach rows t x w.rest) t n (reach rows t x) first w.branch k p)

-- rows that take their parts in order, by their first part
no_first : (hs : List NodeId) → slice_get hs 0 ≡ None → hs ≡ []
no_first [] e = refl
no_first (c ∷ hs) e = absurd (cc)

has_first : (hs : List NodeId) (c : NodeId) → slice_get hs 0 ≡ Some c → hs ≡ c ∷ behind hs
has_first [] c e = absurd (cc)
has_first (d ∷ hs) c e = let s : d ≡ c = same_Some d c e in ap (λ (v : NodeId). v ∷ hs) s

pub behind_at : (hs : List NodeId) (i : ℕ) (c : NodeId) → slice_get (behind hs) i ≡ Some c → slice_get hs (suc i) ≡ Some c
behind_at [] i c e = absurd (cc)
behind_at (d ∷ hs) i c e = e

first_row : (r : Row) (c : NodeId) → first_in (Some r) ≡ Some c → (is_test r.form ≡ false) × IsHead r 0 c
first_row r c e = by (is_test r.form) refl e
  where
    by : (b : Bool) → is_test r.form ≡ b → (if b then None else slice_get (heads r.form r.parts) 0) ≡ Some c → (is_test r.form ≡ false) × IsHead r 0 c
    by true k e = absurd (cc)
    by false k e = (k, e)

pub first_is : (rows : List Row) (n c : NodeId) → first_in (slice_get rows n.0) ≡ Some c → (r : Row) × IsRow rows n r × (is_test r.form ≡ false) × IsHead r 0 c
first_is rows n c e = by (slice_get rows n.0) refl e
  where
    by : (o : Option Row) → slice_get rows n.0 ≡ o → first_in o ≡ Some c → (r : Row) × IsRow rows n r × (is_test r.form ≡ false) × IsHead r 0 c
    by None is e = absurd (cc)
    by (Some r) is e = let s = first_row r c e in (r, is, s.0, s.1)

pub after_is : (rows : List Row) (n c : NodeId) (r : Row) → IsRow rows n r → first_in (slice_get rows n.0) ≡ Some c → (is_test r.form ≡ false) × IsHead r 0 c
after_is rows n c r is e = first_row r c (ap first_in (sym is) ∙ e)

pub no_heads : (rows : List Row) (n : NodeId) (r : Row) → IsRow rows n r → is_test r.form ≡ false → first_in (slice_get rows n.0) ≡ None → heads r.form r.parts ≡ []
no_heads rows n r is nt e = no_first (heads r.form r.parts) (by (is_test r.form) nt (ap first_in (sym is) ∙ e))
  where
    by : (b : Bool) → b ≡ false → (if b then None else slice_get (heads r.form r.parts) 0) ≡ None → slice_get (heads r.form r.parts) 0 ≡ None
    by true k e = absurd (cc)
    by false k e = e

chain_first : (end a : Outs) (g : NodeId → Outs) (hs : List NodeId) (c : NodeId) → slice_get hs 0 ≡ Some c → a ≡ g c → chain none end (map g hs) ≡ (if goes_on a then chain (jumps a) end (map g (behind hs)) else jumps a)
chain_first end a g hs c k e =
    ap (λ (l : List NodeId). chain none end (map g l)) (has_first hs c k)
    ∙ ap (λ (o : Outs). if goes_on o then chain (jumps o) end (map g (behind hs)) else jumps o) (sym e)

abbrev IsFirst : (NodeId → Outs) → List NodeId → Outs → Type 0
IsFirst g hs a = (c : NodeId) × (slice_get hs 0 ≡ Some c) × (a ≡ g c)

pub chain_on : (end a : Outs) (g : NodeId → Outs) (hs : List NodeId) → IsFirst g hs a → goes_on a ≡ true → chain none end (map g hs) ≡ chain (jumps a) end (map g (behind hs))
chain_on end a g hs f on = chain_first end a g hs f.0 f.1 f.2 ∙ ap (λ (v : Bool). if v then chain (jumps a) end (map g (behind hs)) else jumps a) on

pub chain_off : (end a : Outs) (g : NodeId → Outs) (hs : List NodeId) → IsFirst g hs a → goes_on a ≡ false → chain none end (map g hs) ≡ jumps a
chain_off end a g hs f off = chain_first end a g hs f.0 f.1 f.2 ∙ ap (λ (v : Bool). if v then chain (jumps a) end (map g (behind hs)) else jumps a) off

-- down and up by first parts
module _ (rows : List Row) (h : IsForward rows) where
  pub first_behind : (n c : NodeId) → first_in (slice_get rows n.0) ≡ Some c → IsBehind rows n c
  first_behind n c e = let s = first_is rows n c e in h.heads n c 0 s.0 s.1 s.3

  pub leads_behind : (n m : NodeId) → LeadsTo rows n m → n.0 ≤ m.0
  leads_behind n m stays = omega arith
  leads_behind n m (down p c l e) = let a = leads_behind n p l in let b = (first_behind p c e).later in omega (arith, a, b)

  pub record IsAbove (n m : NodeId) : Type 0 where
    pub up : NodeId
    pub first : first_in (slice_get rows up.0) ≡ Some m
    pub leads : LeadsTo rows n up
    pub parent : parent_in (slice_get rows m.0) ≡ Some up
    pub before : up.0 < m.0
    pub behind : n.0 ≤ up.0

  pub above : (n m : NodeId) → LeadsTo rows n m → (m.0 ≡ n.0 → ⊥) → IsAbove n m
  above n m stays k = absurd (k refl)
  above n m (down p c l e) k = record { up = p; first = e; leads = l; parent = h.up p c e; before = (first_behind p c e).later; behind = leads_behind n p l }

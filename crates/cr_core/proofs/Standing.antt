-- The rows of core trees are an arena.
use Rattle.std.proofs.Common.{◌≡◌, get_or, ℕ, zero, suc, ◌+◌, ◌<◌, ◌≤◌, ◌⊎◌, inl, inr, List, [], ◌∷◌, ◌++◌, length, Option, Some, None, refl, sym, ap, ◌∙◌, subst, arith, append_assoc, length-append}
use Rattle.std.specs.Prelude.{slice_get, Contains, IfSome}
use Rattle.std.proofs.lemmas.List.{append-nil}
use Rattle.std.proofs.lemmas.Option.{slice_get_within}
use Rattle.cr_base.specs.declared.ids.NodeId.{NodeId}
use Rattle.cr_core.specs.declared.form.Form.{Form}
use Rattle.cr_core.specs.declared.form.Form.TheVariants as f
use Rattle.cr_core.specs.declared.row.Row.{Row}
use Rattle.cr_core.specs.declared.row.Within.{Within}
use Rattle.cr_core.specs.Core.{Core, none, node, size}
use Rattle.cr_core.specs.Shape.{Role, role, portions, Fits}
use Rattle.cr_core.specs.Arena.{node_id, Opening, Opens, Turns, Plain, opening, inside_opening, inside, starts, layout, rows, outermost}
use Rattle.cr_core.specs.Standing.{Stands, roles, Shaped, IsPart, AreParts, IsParent, IsTurn, IsRow, IsArena}
use Rattle.cr_core.proofs.Walked.{length-layout, get_seam}

-- a layout between other rows stands there
stands : (before more : List Row) (w : Within) (n : ℕ) (c : Core) → n ≡ length before → Stands (before ++ (layout w n c ++ more)) w n c
stands before more w n none len = tt
stands before more w n (node f at ps rest) len =
    let r : Row = record { form = f; place = at; within = w; parts = starts (suc n) ps } in
    let a = layout (inside f n w) (suc n) ps in
    let m = suc (n + size ps) in
    let b = layout w m rest in
    let la = length-layout (inside f n w) (suc n) ps in
    let first : slice_get (before ++ ((r ∷ (a ++ b)) ++ more)) n ≡ Some r = subst (λ (k : ℕ). slice_get (before ++ ((r ∷ (a ++ b)) ++ more)) k ≡ Some r) (sym len) (get_seam before r ((a ++ b) ++ more)) in
    let e1 : (before ++ r ∷ []) ++ (a ++ (b ++ more)) ≡ before ++ ((r ∷ (a ++ b)) ++ more) = simp append_assoc in
    let e2 : (before ++ r ∷ a) ++ (b ++ more) ≡ before ++ ((r ∷ (a ++ b)) ++ more) = simp append_assoc in
    let n1 : suc n ≡ length (before ++ r ∷ []) = omega (arith, length-append before (r ∷ [])) in
    let n2 : m ≡ length (before ++ r ∷ a) = omega (arith, length-append before (r ∷ a)) in (
      first,
      subst (λ (rs : List Row). Stands rs (inside f n w) (suc n) ps) e1 (stands (before ++ r ∷ []) (b ++ more) (inside f n w) (suc n) ps n1),
      subst (λ (rs : List Row). Stands rs w m rest) e2 (stands (before ++ r ∷ a) more w m rest n2),
    )

pub rows_stand : (c : Core) → Stands (rows c) outermost 0 c
rows_stand c = subst (λ (rs : List Row). Stands rs outermost 0 c) (append-nil (rows c)) (stands [] [] outermost 0 c refl)

lower : (rs : List Row) (w : Within) (low low' : ℕ) (ps : List NodeId) (ks : List Role) → low' ≤ low → AreParts rs w low ps ks → AreParts rs w low' ps ks
lower rs w low low' [] [] le h = tt
lower rs w low low' [] (k ∷ ks) le h = h
lower rs w low low' (p ∷ ps) [] le h = h
lower rs w low low' (p ∷ ps) (k ∷ ks) le h = (omega (arith, h.0), h.1, h.2)

parts_of : (rs : List Row) (w : Within) (n : ℕ) (c : Core) → Stands rs w n c → AreParts rs w n (starts n c) (roles c)
parts_of rs w n none h = tt
parts_of rs w n (node f at ps rest) h =
    let m = suc (n + size ps) in (
      omega arith,
      record { row = record { form = f; place = at; within = w; parts = starts (suc n) ps }; stands = h.0; surrounded = refl; role_is = refl },
      lower rs w m (suc n) (starts m rest) (roles rest) (omega arith) (parts_of rs w m rest h.2),
    )

-- ---- what surrounds a row is there

-- the trees from row n on are parts of what surrounds them, and its loop begins before them
record AreHeld (rs : List Row) (w : Within) (n : ℕ) (c : Core) : Type 0 where
  parents : (k : ℕ) → Contains (starts n c) (node_id k) → IfSome w.parent (IsParent rs k)
  turn : IfSome w.turn (IsTurn rs n w.scope)

first_of : (x : NodeId) (xs : List NodeId) → Contains (x ∷ xs) x
first_of x xs = (0, omega arith, refl)

later_of : (x y : NodeId) (xs : List NodeId) → Contains xs y → Contains (x ∷ xs) y
later_of x y xs has = (suc has.0, omega (arith, has.1), has.2)

first_or_later : (x y : NodeId) (xs : List NodeId) → Contains (x ∷ xs) y → (x ≡ y) ⊎ Contains xs y
first_or_later x y xs has = by_place has.0 has.1 has.2
  where
    by_place : (i : ℕ) → i < length (x ∷ xs) → get_or (x ∷ xs) i y ≡ y → (x ≡ y) ⊎ Contains xs y
    by_place zero lt is = inl is
    by_place (suc i) lt is = inr (i, omega (arith, lt), is)

later_turn : (rs : List Row) (n m : ℕ) (w : Within) → n ≤ m → IfSome w.turn (IsTurn rs n w.scope) → IfSome w.turn (IsTurn rs m w.scope)
later_turn rs n m w le h = by_turn w.turn h
  where
    by_turn : (t : Option NodeId) → IfSome t (IsTurn rs n w.scope) → IfSome t (IsTurn rs m w.scope)
    by_turn None h = h
    by_turn (Some t) h = record { row = h.row; stands = h.stands; before = omega (arith, h.before); loop = h.loop; same_scope = h.same_scope }

-- the starts of trees stand behind where they begin
start_behind : (n : ℕ) (c : Core) (k : ℕ) → Contains (starts n c) (node_id k) → n ≤ k
start_behind n none k has = absurd (omega (arith, has.1))
start_behind n (node f at ps rest) k has = elim (first_or_later (node_id n) (node_id k) (starts (suc (n + size ps)) rest) has) [
  | inl is ↦ omega (arith, ap (λ (x : NodeId). x.0) is)
  | inr later ↦ let behind = start_behind (suc (n + size ps)) rest k later in omega arith
]

turn_inside : (rs : List Row) (o : Opening) (form : Form) (n : ℕ) (w : Within) (r : Row) → (o ≡ Turns → form ≡ f.While) → slice_get rs n ≡ Some r → r.form ≡ form → r.within ≡ w → IfSome w.turn (IsTurn rs n w.scope) → IfSome (inside_opening o n w).turn (IsTurn rs (suc n) (inside_opening o n w).scope)
turn_inside rs (Opens scope) form n w r loops is of in_w h = tt
turn_inside rs Turns form n w r loops is of in_w h = record { row = r; stands = is; before = omega arith; loop = of ∙ loops refl; same_scope = ap (λ (w : Within). w.scope) in_w }
turn_inside rs Plain form n w r loops is of in_w h = later_turn rs n (suc n) w (omega arith) h

opens_loop : (form : Form) → opening form ≡ Turns → form ≡ f.While
opens_loop f.Nil is = absurd cc
opens_loop f.True is = absurd cc
opens_loop f.False is = absurd cc
opens_loop (f.Int32 x) is = absurd cc
opens_loop (f.Int64 x) is = absurd cc
opens_loop (f.Text x) is = absurd cc
opens_loop (f.Local x) is = absurd cc
opens_loop (f.Set x) is = absurd cc
opens_loop (f.Field x) is = absurd cc
opens_loop (f.SetField x) is = absurd cc
opens_loop f.KeywordSelf is = absurd cc
opens_loop f.Seq is = absurd cc
opens_loop f.If is = absurd cc
opens_loop f.And is = absurd cc
opens_loop f.Or is = absurd cc
opens_loop f.Not is = absurd cc
opens_loop f.IsA is = absurd cc
opens_loop f.While is = refl
opens_loop f.Again is = absurd cc
opens_loop f.Return is = absurd cc
opens_loop f.Next is = absurd cc
opens_loop f.Break is = absurd cc
opens_loop (f.Call x0 x1 x2) is = absurd cc
opens_loop f.Super is = absurd cc
opens_loop (f.New x0 x1) is = absurd cc
opens_loop f.Yield is = absurd cc
opens_loop (f.Spawn x0) is = absurd cc
opens_loop f.Raise is = absurd cc
opens_loop f.Puts is = absurd cc
opens_loop f.Pause is = absurd cc
opens_loop (f.Array x0) is = absurd cc
opens_loop (f.Hash x0) is = absurd cc
opens_loop (f.Select x0) is = absurd cc
opens_loop f.Received is = absurd cc
opens_loop f.Send is = absurd cc
opens_loop f.Receive is = absurd cc
opens_loop f.ReceiveOrNil is = absurd cc
opens_loop (f.Atom x) is = absurd cc
opens_loop f.Union is = absurd cc
opens_loop (f.Program x) is = absurd cc
opens_loop (f.Def x0 x1 x2 x3) is = absurd cc
opens_loop (f.Block x) is = absurd cc
opens_loop (f.Parameter x0 x1) is = absurd cc
opens_loop (f.Class x0 x1) is = absurd cc
opens_loop (f.TypeParameter x) is = absurd cc
opens_loop (f.Module x) is = absurd cc
opens_loop (f.Include x) is = absurd cc
opens_loop (f.Declaration x) is = absurd cc

parent_of_parts : (rs : List Row) (o : Opening) (n : ℕ) (w : Within) (r : Row) (ps : Core) → slice_get rs n ≡ Some r → r.parts ≡ starts (suc n) ps → (k : ℕ) → Contains (starts (suc n) ps) (node_id k) → IfSome (inside_opening o n w).parent (IsParent rs k)
parent_of_parts rs o n w r ps is parts k has = by_opening o
  where
    parent : IsParent rs k (node_id n)
    parent = record {
      row = r;
      stands = is;
      before = let behind = start_behind (suc n) ps k has in omega arith;
      part = subst (λ (xs : List NodeId). Contains xs (node_id k)) (sym parts) has;
    }

    by_opening : (o : Opening) → IfSome (inside_opening o n w).parent (IsParent rs k)
    by_opening (Opens scope) = parent
    by_opening Turns = parent
    by_opening Plain = parent

-- ---- each row

lt-or-le : (a b : ℕ) → (a < b) ⊎ (b ≤ a)
lt-or-le a zero = inr (omega arith)
lt-or-le zero (suc b) = inl (omega arith)
lt-or-le (suc a) (suc b) = elim (lt-or-le a b) [ inl h ↦ inl (omega arith) | inr h ↦ inr (omega arith) ]

same_row : (rs : List Row) (n k : ℕ) (q r : Row) → k ≡ n → slice_get rs n ≡ Some q → slice_get rs k ≡ Some r → IsRow rs n q → IsRow rs k r
same_row rs n k q r at first is h =
    let same : q ≡ r = cc in
    subst (λ (x : Row). IsRow rs k x) same (subst (λ (j : ℕ). IsRow rs j q) (sym at) h)

row_at : (rs : List Row) (w : Within) (n : ℕ) (c : Core) → Shaped c → Stands rs w n c → AreHeld rs w n c → (k : ℕ) (r : Row) → n ≤ k → k < n + size c → slice_get rs k ≡ Some r → IsRow rs k r
row_at rs w n none sh h held k r low high is = absurd (omega arith)
row_at rs w n (node f at ps rest) sh h held k r low high is =
    let row : Row = record { form = f; place = at; within = w; parts = starts (suc n) ps } in
    let m = suc (n + size ps) in
    let held_parts : AreHeld rs (inside f n w) (suc n) ps = record {
      parents = parent_of_parts rs (opening f) n w row ps h.0 refl;
      turn = turn_inside rs (opening f) f n w row (opens_loop f) h.0 refl refl held.turn;
    } in
    let held_rest : AreHeld rs w m rest = record {
      parents = λ k has. held.parents k (later_of (node_id n) (node_id k) (starts m rest) has);
      turn = later_turn rs n m w (omega arith) held.turn;
    } in
    elim (lt-or-le n k) [
      | inl after ↦ elim (lt-or-le k m) [
        | inl inner ↦ row_at rs (inside f n w) (suc n) ps sh.1 h.1 held_parts k r (omega arith) (omega arith) is
        | inr beyond ↦ row_at rs w m rest sh.2 h.2 held_rest k r beyond (omega arith) is
      ]
      | inr before ↦ same_row rs n k row r (omega arith) h.0 is (record {
        there_for = roles ps;
        shape = sh.0;
        parts = parts_of rs (inside f n w) (suc n) ps h.1;
        parent = held.parents n (first_of (node_id n) (starts m rest));
        turn = held.turn;
      })
    ]

pub rows_are_an_arena : (c : Core) → Shaped c → IsArena (rows c)
rows_are_an_arena c sh = record {
  each = λ n r is.
      let len = length-layout outermost 0 c in
      let within = slice_get_within (rows c) n r is in
      row_at (rows c) outermost 0 c sh (rows_stand c) (record { parents = λ k has. tt; turn = tt }) n r (omega arith) (omega arith) is;
}

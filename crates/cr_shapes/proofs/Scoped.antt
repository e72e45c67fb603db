-- A row stands in a block with which a fiber begins exactly where its scope is that of one, or of a block in one.
use Rattle.std.proofs.Common.{◌≡◌, ℕ, zero, suc, ◌<◌, ◌⊎◌, inl, inr, Bool, true, false, List, [], ◌∷◌, ◌++◌, Option, Some, None, refl, sym, ap, ◌∙◌, subst, ◌↔◌, arith}
use Rattle.std.specs.Prelude.{slice_get, IfSome, IsNone}
use Rattle.std.specs.List.{list_all}
use Rattle.std.proofs.lemmas.Bool.{and_parts, cases_Bool, both_ways}
use Rattle.std.proofs.lemmas.Option.{same_Some, slice_get-get_or}
use Rattle.cr_base.specs.declared.ids.NodeId.{NodeId}
use Rattle.cr_core.specs.declared.form.Form.{Form}
use Rattle.cr_core.specs.declared.form.Form.TheVariants as f
use Rattle.cr_core.specs.declared.form.ScopeId.{ScopeId}
use Rattle.cr_core.specs.declared.row.Row.{Row}
use Rattle.cr_core.specs.declared.row.Within.{Within}
use Rattle.cr_core.specs.declared.scope.Scope.{Scope}
use Rattle.cr_core.specs.declared.scope.ScopeKind.TheVariants.{Spawn}
use Rattle.cr_core.specs.Arena.{node_id, Opening, Opens, Turns, Plain, opening, inside, inside_opening}
use Rattle.cr_core.specs.Shape.{Role, role, Portion, portions, Fits, Are}
use Rattle.cr_core.specs.Shape as k
use Rattle.cr_core.specs.Standing.{AreParts, IsPart, IsParent, IsArena}
use Rattle.cr_core.specs.Tree.{Contents, IsCore, form_of, form_at, kind_of, kind_by, home_of}
use Rattle.cr_shapes.specs.Homes.{IsSpawnedScope}
use Rattle.cr_shapes.specs.Homes as h
use Rattle.cr_shapes.specs.Spawned.{begins_fiber, IsAround, IsSpawnedBlock, IsSpawned}
use Rattle.cr_shapes.specs.Spawned as s

-- ---- what parts a form may have

abbrev role_in : Portion → Role
role_in (k.one r) = r
role_in (k.many r) = r
role_in (k.pairs r) = r

are_at : (r : Role) (ks : List Role) (i : ℕ) (x : Role) → Are r ks → slice_get ks i ≡ Some x → x ≡ r
are_at r [] i x are at = absurd cc
are_at r (j ∷ ks) zero x are at = sym (same_Some j x at) ∙ are.0
are_at r (j ∷ ks) (suc i) x are at = are_at r ks i x are.1 at

-- an item of two lists behind one another stands in one of them
in_either : {X : Type 0} (xs ys : List X) (i : ℕ) (x : X) → slice_get (xs ++ ys) i ≡ Some x → ((j : ℕ) × (slice_get xs j ≡ Some x)) ⊎ ((j : ℕ) × (slice_get ys j ≡ Some x))
in_either [] ys i x at = inr (i, at)
in_either (y ∷ xs) ys zero x at = inl (0, at)
in_either (y ∷ xs) ys (suc i) x at = elim (in_either xs ys i x at) [ inl l ↦ inl (suc l.0, l.1) | inr r ↦ inr r ]

abbrev passes : (Role → Bool) → List Portion → Bool
passes test ps = list_all (λ p. test (role_in p)) ps

-- parts pass a test that their portions pass
fits_pass : (test : Role → Bool) (ps : List Portion) (ks : List Role) → passes test ps ≡ true → Fits ps ks → (i : ℕ) (x : Role) → slice_get ks i ≡ Some x → test x ≡ true
fits_pass test [] [] all fits i x at = absurd cc
fits_pass test [] (j ∷ ks) all fits i x at = absurd fits
fits_pass test (k.one r ∷ ps) [] all fits i x at = absurd fits
fits_pass test (k.one r ∷ ps) (j ∷ ks) all fits zero x at = ap test (sym (same_Some j x at) ∙ fits.0) ∙ (and_parts (test r) (passes test ps) all).0
fits_pass test (k.one r ∷ ps) (j ∷ ks) all fits (suc i) x at = fits_pass test ps ks (and_parts (test r) (passes test ps) all).1 fits.1 i x at
fits_pass test (k.many r ∷ ps) ks all fits i x at =
    let both = and_parts (test r) (passes test ps) all in
    elim (in_either fits.0 fits.1 i x (ap (λ (l : List Role). slice_get l i) (sym fits.2) ∙ at)) [
      | inl front ↦ ap test (are_at r fits.0 front.0 x fits.3 front.1) ∙ both.0
      | inr rest ↦ fits_pass test ps fits.1 both.1 fits.4 rest.0 x rest.1
    ]
fits_pass test (k.pairs r ∷ ps) ks all fits i x at =
    let both = and_parts (test r) (passes test ps) all in
    elim (in_either fits.0 fits.1 i x (ap (λ (l : List Role). slice_get l i) (sym fits.3) ∙ at)) [
      | inl front ↦ ap test (are_at r fits.0 front.0 x fits.5 front.1) ∙ both.0
      | inr rest ↦ fits_pass test ps fits.1 both.1 fits.6 rest.0 x rest.1
    ]

-- no declaration
abbrev is_inner : Role → Bool
is_inner k.Member = false
is_inner k.Program = false
is_inner other = true

abbrev pub is_no_block : Role → Bool
is_no_block k.Block = false
is_no_block other = true

-- a form that declares nothing has no declaration among its parts
inner_parts : (form : Form) → is_inner (role form) ≡ true → passes is_inner (portions form) ≡ true
inner_parts (f.Call name true true) e = refl
inner_parts (f.Call name true false) e = refl
inner_parts (f.Call name false true) e = refl
inner_parts (f.Call name false false) e = refl
inner_parts (f.New question true) e = refl
inner_parts (f.New question false) e = refl
inner_parts (f.Spawn true) e = refl
inner_parts (f.Spawn false) e = refl
inner_parts (f.Array true) e = refl
inner_parts (f.Array false) e = refl
inner_parts (f.Hash true) e = refl
inner_parts (f.Hash false) e = refl
inner_parts (f.Select true) e = refl
inner_parts (f.Select false) e = refl
inner_parts (f.Parameter slot true) e = refl
inner_parts (f.Parameter slot false) e = refl
inner_parts (f.Class name superclass) e = absurd cc
inner_parts (f.Module name) e = absurd cc
inner_parts (f.Include name) e = absurd cc
inner_parts (f.Declaration name) e = absurd cc
inner_parts (f.Def name scope result written) e = absurd cc
inner_parts (f.Program scope) e = absurd cc
inner_parts form e = refl

-- only calls, `spawn` and `new` have blocks
no_blocks : (form : Form) → kind_by (Some form) ≡ Spawn → begins_fiber (Some form) ≡ false → passes is_no_block (portions form) ≡ true
no_blocks (f.Call name receiver block) e e' = absurd cc
no_blocks (f.New question block) e e' = absurd cc
no_blocks (f.Spawn context) e e' = absurd cc
no_blocks (f.Array true) e e' = refl
no_blocks (f.Array false) e e' = refl
no_blocks (f.Hash true) e e' = refl
no_blocks (f.Hash false) e e' = refl
no_blocks (f.Select true) e e' = refl
no_blocks (f.Select false) e e' = refl
no_blocks (f.Parameter slot true) e e' = refl
no_blocks (f.Parameter slot false) e e' = refl
no_blocks (f.Def name scope true written) e e' = refl
no_blocks (f.Def name scope false written) e e' = refl
no_blocks form e e' = refl

-- ---- a row and the one that it is a part of

part_at : (rows : List Row) (w : Within) (low : ℕ) (ps : List NodeId) (ks : List Role) → AreParts rows w low ps ks → (i : ℕ) (p : NodeId) → slice_get ps i ≡ Some p →
    (x : Role) × (slice_get ks i ≡ Some x) × IsPart rows w p x
part_at rows w low [] ks are i p at = absurd cc
part_at rows w low (q ∷ ps) [] are i p at = absurd are
part_at rows w low (q ∷ ps) (x ∷ ks) are zero p at = (x, refl, subst (λ (n : NodeId). IsPart rows w n x) (same_Some q p at) are.1)
part_at rows w low (q ∷ ps) (x ∷ ks) are (suc i) p at = part_at rows w (suc q.0) ps ks are.2 i p at

record Above (rows : List Row) (n : ℕ) (row : Row) (p : NodeId) : Type 0 where
  around : Row
  stands : slice_get rows p.0 ≡ Some around
  before : p.0 < n
  surrounded : row.within ≡ inside around.form p.0 around.within
  -- a test that all parts of the row around pass
  pass : (test : Role → Bool) → passes test (portions around.form) ≡ true → test (role row.form) ≡ true

above : (t : Contents) (n : ℕ) (row : Row) (p : NodeId) → IsArena t.rows → slice_get t.rows n ≡ Some row → row.within.parent ≡ Some p → Above t.rows n row p
above t n row p arena at up =
    let parent : IsParent t.rows n p = subst (λ (o : Option NodeId). IfSome o (IsParent t.rows n)) up (arena.each n row at).parent in
    let outer = arena.each p.0 parent.row parent.stands in
    let i = parent.part.0 in
    let listed : slice_get parent.row.parts i ≡ Some (node_id n) = slice_get-get_or parent.row.parts i (node_id n) parent.part.1 ∙ ap Some parent.part.2 in
    let part = part_at t.rows (inside parent.row.form p.0 parent.row.within) (suc p.0) parent.row.parts outer.there_for outer.parts i (node_id n) listed in
    let same : part.2.row ≡ row = same_Some part.2.row row (sym part.2.stands ∙ at) in
    record {
      around = parent.row;
      stands = parent.stands;
      before = parent.before;
      surrounded = sym (ap (λ (r : Row). r.within) same) ∙ part.2.surrounded;
      pass = λ test all. ap (λ (r : Row). test (role r.form)) (sym same) ∙ ap test part.2.role_is ∙ fits_pass test (portions parent.row.form) outer.there_for all outer.shape i part.0 part.1;
    }

-- ---- scopes

-- the parts of a row stand in the scope that it opens, or in its own
scope_inside : (o : Opening) (n : ℕ) (w : Within) → ((k : ScopeId) × (o ≡ Opens k) × ((inside_opening o n w).scope ≡ k)) ⊎ (((k : ScopeId) → o ≡ Opens k → ⊥) × ((inside_opening o n w).scope ≡ w.scope))
scope_inside (Opens k) n w = inl (k, refl, refl)
scope_inside Turns n w = inr (λ k e. cc, refl)
scope_inside Plain n w = inr (λ k e. cc, refl)

opens_block : (form : Form) (k : ScopeId) → is_inner (role form) ≡ true → opening form ≡ Opens k → form ≡ f.Block k
opens_block (f.Block j) k e o = let same : j ≡ k = cc in ap f.Block same
opens_block (f.Def name scope result written) k e o = absurd cc
opens_block (f.Program scope) k e o = absurd cc
opens_block form k e o = absurd cc

fiber_kind : (around : Option Form) → begins_fiber around ≡ true → kind_by around ≡ Spawn
fiber_kind (Some (f.Spawn context)) e = refl
fiber_kind (Some (f.New question block)) e = refl
fiber_kind around e = absurd cc

block_home : (around : Option Form) (row : Row) → home_of (kind_by around) row ≡ Some row.within.scope
block_home None row = refl
block_home (Some (f.Call name receiver block)) row = refl
block_home (Some form) row = refl

-- ---- the row at the head

at_head : (t : Contents) (n : ℕ) (row : Row) → IsCore t → slice_get t.rows n ≡ Some row → n ≡ 0 → row.form ≡ f.Program (record { 0 = 0 })
at_head t n row core at zero' =
    let same : row ≡ core.rooted.root = same_Some row core.rooted.root (sym at ∙ ap (slice_get t.rows) zero' ∙ core.rooted.stands) in
    ap (λ (r : Row). r.form) same ∙ core.rooted.program

option_cases : {X : Type 0} (o : Option X) → (o ≡ None) ⊎ ((x : X) × (o ≡ Some x))
option_cases None = inl refl
option_cases (Some x) = inr (x, refl)

has_parent : (t : Contents) (n : ℕ) (row : Row) → IsCore t → slice_get t.rows n ≡ Some row → (n ≡ 0 → ⊥) → (p : NodeId) × (row.within.parent ≡ Some p)
has_parent t n row core at below = elim (option_cases row.within.parent) [
  | inl none ↦ absurd (below (core.rooted.alone n row at (subst (λ (o : Option NodeId). IsNone o) (sym none) refl)))
  | inr some ↦ some
]

-- ---- rows in such a block are in such a scope

record Inner (t : Contents) (row : Row) : Type 0 where
  inner : is_inner (role row.form) ≡ true
  spawned : IsSpawnedScope t.scopes row.within.scope.0

to_scope : (t : Contents) (row : Row) (k : ScopeId) → row.within.scope ≡ k → IsSpawnedScope t.scopes k.0 → IsSpawnedScope t.scopes row.within.scope.0
to_scope t row k same spawned = subst (λ (j : ScopeId). IsSpawnedScope t.scopes j.0) (sym same) spawned

block_spawned : (t : Contents) (m : ℕ) → IsCore t → (is : IsSpawnedBlock t.rows m) → IsSpawnedScope t.scopes is.scope.0
block_spawned t m core is =
    let known = (core.rows m is.row is.stands).opens is.scope (ap opening is.form) in
    let around = form_at t.rows is.row.within.parent in
    let kind : known.0.kind ≡ Spawn = ap (λ (x : Scope). x.kind) known.2 ∙ ap (λ (x : Form). kind_of x around) is.form ∙ fiber_kind around is.begins in
    h.itself is.scope.0 known.0 known.1 kind

block_inside : (t : Contents) (p : ℕ) (row : Row) (k : ScopeId) → IsCore t → slice_get t.rows p ≡ Some row → row.form ≡ f.Block k → IsSpawnedScope t.scopes row.within.scope.0 → IsSpawnedScope t.scopes k.0
block_inside t p row k core at form spawned =
    let known = (core.rows p row at).opens k (ap opening form) in
    let around = form_at t.rows row.within.parent in
    let home : known.0.home ≡ Some row.within.scope = ap (λ (x : Scope). x.home) known.2 ∙ ap (λ (x : Form). home_of (kind_of x around) row) form ∙ block_home around row in
    h.inside k.0 known.0 row.within.scope known.1 home spawned

one_inside : (t : Contents) (n : ℕ) (row : Row) (p : NodeId) (a : Above t.rows n row p) → IsCore t → Inner t a.around → IsSpawnedScope t.scopes row.within.scope.0
one_inside t n row p a core outer =
    let same : row.within.scope ≡ (inside a.around.form p.0 a.around.within).scope = ap (λ (w : Within). w.scope) a.surrounded in
    elim (scope_inside (opening a.around.form) p.0 a.around.within) [
      | inl o ↦ to_scope t row o.0 (same ∙ o.2) (block_inside t p.0 a.around o.0 core a.stands (opens_block a.around.form o.0 outer.inner o.1) outer.spawned)
      | inr o ↦ to_scope t row a.around.within.scope (same ∙ o.1) outer.spawned
    ]

in_block : (t : Contents) (m : ℕ) → IsCore t → IsSpawnedBlock t.rows m → (n : ℕ) → IsAround t.rows m n → (row : Row) → slice_get t.rows n ≡ Some row → Inner t row
in_block t m core is n (s.parent j r there up) row at =
    let same : r ≡ row = same_Some r row (sym there ∙ at) in
    let a = above t n row (node_id m) core.arena at (ap (λ (x : Row). x.within.parent) (sym same) ∙ up) in
    let form : a.around.form ≡ f.Block is.scope = ap (λ (x : Row). x.form) (same_Some a.around is.row (sym a.stands ∙ is.stands)) ∙ is.form in
    let scope : row.within.scope ≡ is.scope = ap (λ (w : Within). w.scope) a.surrounded ∙ ap (λ (x : Form). (inside x m a.around.within).scope) form in
    record {
      inner = a.pass is_inner (inner_parts a.around.form (ap (λ (x : Form). is_inner (role x)) form));
      spawned = to_scope t row is.scope scope (block_spawned t m core is);
    }
in_block t m core is n (s.further j r p there up more) row at =
    let same : r ≡ row = same_Some r row (sym there ∙ at) in
    let a = above t n row p core.arena at (ap (λ (x : Row). x.within.parent) (sym same) ∙ up) in
    let outer = in_block t m core is p.0 more a.around a.stands in
    record {
      inner = a.pass is_inner (inner_parts a.around.form outer.inner);
      spawned = one_inside t n row p a core outer;
    }

-- ---- rows in such a scope are in such a block

record Opener (t : Contents) (n : ℕ) (k : ScopeId) : Type 0 where
  at : ℕ
  row : Row
  stands : slice_get t.rows at ≡ Some row
  opens : opening row.form ≡ Opens k
  around : IsAround t.rows at n

opener : (t : Contents) (fuel n : ℕ) (row : Row) → IsCore t → slice_get t.rows n ≡ Some row → n < fuel → (n ≡ 0 → ⊥) → Opener t n row.within.scope
opener t zero n row core at low below = absurd (omega (arith, low))
opener t (suc fuel) n row core at low below =
    let up = has_parent t n row core at below in
    let p = up.0 in
    let a = above t n row p core.arena at up.1 in
    let same : row.within.scope ≡ (inside a.around.form p.0 a.around.within).scope = ap (λ (w : Within). w.scope) a.surrounded in
    let before = a.before in
    elim (scope_inside (opening a.around.form) p.0 a.around.within) [
      | inl o ↦ record {
        at = p.0;
        row = a.around;
        stands = a.stands;
        opens = o.1 ∙ ap Opens (sym (same ∙ o.2));
        around = s.parent n row at up.1;
      }
      | inr o ↦
          let lower : p.0 ≡ 0 → ⊥ = λ e. o.0 (record { 0 = 0 }) (ap opening (at_head t p.0 a.around core a.stands e)) in
          let more = opener t fuel p.0 a.around core a.stands (omega (arith, low, before)) lower in
          record {
            at = more.at;
            row = more.row;
            stands = more.stands;
            opens = more.opens ∙ ap Opens (sym (same ∙ o.1));
            around = s.further n row p at up.1 more.around;
          }
    ]

beyond : (rows : List Row) (l m n : ℕ) → IsAround rows l m → IsAround rows m n → IsAround rows l n
beyond rows l m n outer (s.parent j row at up) = s.further n row (node_id m) at up outer
beyond rows l m n outer (s.further j row p at up more) = s.further n row p at up (beyond rows l m p.0 outer more)

spawn_block : (form : Form) (k : ScopeId) (around : Option Form) → opening form ≡ Opens k → kind_of form around ≡ Spawn → (form ≡ f.Block k) × (kind_by around ≡ Spawn)
spawn_block (f.Block j) k around o e = let same : j ≡ k = cc in (ap f.Block same, e)
spawn_block (f.Def name scope result written) k around o e = absurd cc
spawn_block (f.Program scope) k around o e = absurd cc
spawn_block form k around o e = absurd cc

home_block : (form : Form) (k home : ScopeId) (around : Option Form) (row : Row) → opening form ≡ Opens k → home_of (kind_of form around) row ≡ Some home → (form ≡ f.Block k) × (row.within.scope ≡ home)
home_block (f.Block j) k home around row o e = let same : j ≡ k = cc in (ap f.Block same, same_Some row.within.scope home (sym (block_home around row) ∙ e))
home_block (f.Def name scope result written) k home around row o e = absurd cc
home_block (f.Program scope) k home around row o e = absurd cc
home_block form k home around row o e = absurd cc

not_head : (t : Contents) (n : ℕ) (row : Row) (k : ScopeId) → IsCore t → slice_get t.rows n ≡ Some row → row.form ≡ f.Block k → n ≡ 0 → ⊥
not_head t n row k core at form e = let clash : f.Program (record { 0 = 0 }) ≡ f.Block k = sym (at_head t n row core at e) ∙ form in cc

-- what is around a block where it is not a call's
begun : (t : Contents) (n : ℕ) (row : Row) (k : ScopeId) → IsCore t → slice_get t.rows n ≡ Some row → row.form ≡ f.Block k → kind_by (form_at t.rows row.within.parent) ≡ Spawn →
    begins_fiber (form_at t.rows row.within.parent) ≡ true
begun t n row k core at form kind =
    let up = has_parent t n row core at (not_head t n row k core at form) in
    let a = above t n row up.0 core.arena at up.1 in
    let is : form_at t.rows row.within.parent ≡ Some a.around.form = ap (form_at t.rows) up.1 ∙ ap form_of a.stands in
    ap begins_fiber is ∙ elim (cases_Bool (begins_fiber (Some a.around.form))) [
      | inl begins ↦ begins
      | inr other ↦
          let none = a.pass is_no_block (no_blocks a.around.form (ap kind_by (sym is) ∙ kind) other) in
          absurd (both_ways (is_no_block (role row.form)) (ap (λ (x : Form). is_no_block (role x)) form) none)
    ]

scope_at_same : (t : Contents) (j : ScopeId) (k : ℕ) (scope other : Scope) → j.0 ≡ k → slice_get t.scopes k ≡ Some scope → slice_get t.scopes j.0 ≡ Some other → scope ≡ other
scope_at_same t j k scope other e at there = same_Some scope other (sym at ∙ ap (slice_get t.scopes) (sym e) ∙ there)

from_scope : (t : Contents) (k : ℕ) → IsCore t → IsSpawnedScope t.scopes k → (n : ℕ) (row : Row) → slice_get t.rows n ≡ Some row → (n ≡ 0 → ⊥) → row.within.scope.0 ≡ k → IsSpawned t.rows n
from_scope t k core (h.itself j scope stands kind) n row at below e =
    let op = opener t (suc n) n row core at (omega arith) below in
    let around = form_at t.rows op.row.within.parent in
    let known = (core.rows op.at op.row op.stands).opens row.within.scope op.opens in
    let same = scope_at_same t row.within.scope k scope known.0 e stands known.1 in
    let of : kind_of op.row.form around ≡ Spawn = sym (ap (λ (x : Scope). x.kind) known.2) ∙ sym (ap (λ (x : Scope). x.kind) same) ∙ kind in
    let block = spawn_block op.row.form row.within.scope around op.opens of in
    record {
      block = op.at;
      is = record { row = op.row; scope = row.within.scope; stands = op.stands; form = block.0; begins = begun t op.at op.row row.within.scope core op.stands block.0 block.1 };
      around = op.around;
    }
from_scope t k core (h.inside j scope home stands is more) n row at below e =
    let op = opener t (suc n) n row core at (omega arith) below in
    let around = form_at t.rows op.row.within.parent in
    let known = (core.rows op.at op.row op.stands).opens row.within.scope op.opens in
    let same = scope_at_same t row.within.scope k scope known.0 e stands known.1 in
    let of : home_of (kind_of op.row.form around) op.row ≡ Some home = sym (ap (λ (x : Scope). x.home) known.2) ∙ sym (ap (λ (x : Scope). x.home) same) ∙ is in
    let block = home_block op.row.form row.within.scope home around op.row op.opens of in
    let outer = from_scope t home.0 core more op.at op.row op.stands (not_head t op.at op.row row.within.scope core op.stands block.0) (ap (λ (x : ScopeId). x.0) block.1) in
    record { block = outer.block; is = outer.is; around = beyond t.rows outer.block op.at n outer.around op.around }

pub by_scope : (t : Contents) (n : ℕ) (row : Row) → IsCore t → slice_get t.rows n ≡ Some row → row.form ≡ f.Yield → IsSpawnedScope t.scopes row.within.scope.0 ↔ IsSpawned t.rows n
by_scope t n row core at form = (
  λ spawned. from_scope t row.within.scope.0 core spawned n row at (λ e. let clash : f.Program (record { 0 = 0 }) ≡ f.Yield = sym (at_head t n row core at e) ∙ form in cc) refl,
  λ spawned. (in_block t spawned.block core spawned.is n spawned.around row at).spawned,
)

-- Flags that are set row by row say which scopes have a `yield`.
use Rattle.std.proofs.Common.{◌≡◌, ℕ, zero, suc, ◌<◌, ◌≤◌, drop, ◌⊎◌, inl, inr, Bool, true, false, List, [], ◌∷◌, ◌++◌, length, get_or, Option, Some, None, refl, sym, ap, ◌∙◌, subst, arith}
use Rattle.std.proofs.Math.ListN.{replicate, set}
use Rattle.std.specs.Prelude.{slice_get, slice_set, IfSome, if◌then◌else◌}
use Rattle.std.proofs.lemmas.Bool.{cases_lt}
use Rattle.std.proofs.lemmas.List.{length-set, length-replicate, get_or-set_same, get_or-set_other, get_or-replicate, get_or_past, at_drop_all}
use Rattle.std.proofs.lemmas.Option.{same_Some, slice_get_within, slice_get-get_or, unwrap_or-slice_get}
use Rattle.cr_core.specs.declared.form.Form.{Form}
use Rattle.cr_core.specs.declared.form.Form.TheVariants as f
use Rattle.cr_core.specs.declared.form.ScopeId.{ScopeId}
use Rattle.cr_core.specs.declared.row.Row.{Row}
use Rattle.cr_core.specs.declared.scope.Scope.{Scope}
use Rattle.cr_core.specs.Tree.{Contents, IsCore}
use Rattle.cr_declarations.specs.Blocks.{IsOutermost, HasYield, SayWhichYield}
use Rattle.cr_declarations.specs.Blocks as o
use Rattle.cr_declarations.specs.Marking.{AreOutermost, is_yield, no_scope, outermost_of, marked, marked_all}

-- ---- outermost scopes

last_or_before : {X : Type 0} (xs : List X) (y : X) (k : ℕ) (x : X) → slice_get (xs ++ y ∷ []) k ≡ Some x → (slice_get xs k ≡ Some x) ⊎ ((k ≡ length xs) × (y ≡ x))
last_or_before [] y zero x e = inr (refl, same_Some y x e)
last_or_before [] y (suc k) x e = absurd cc
last_or_before (z ∷ xs) y zero x e = inl e
last_or_before (z ∷ xs) y (suc k) x e = elim (last_or_before xs y k x e) [ inl h ↦ inl h | inr h ↦ inr (ap suc h.0, h.1) ]

one_more : (scopes : List Scope) (list : List ScopeId) (m : ScopeId) → AreOutermost scopes list → IsOutermost scopes (length list) m.0 → AreOutermost scopes (list ++ m ∷ [])
one_more scopes list m before this = λ k n e. elim (last_or_before list m k n e) [
  | inl h ↦ before k n h
  | inr h ↦
      let at : IsOutermost scopes k m.0 = subst (λ (j : ℕ). IsOutermost scopes j m.0) (sym h.0) this in
      subst (λ (x : ScopeId). IsOutermost scopes k x.0) h.1 at
]

outermost_at : (scopes : List Scope) (list : List ScopeId) (h : ScopeId) → AreOutermost scopes list → h.0 < length list → IsOutermost scopes h.0 (outermost_of list h).0
outermost_at scopes list h are low = are h.0 (outermost_of list h) (slice_get-get_or list h.0 no_scope low ∙ ap Some (sym (unwrap_or-slice_get list h.0 no_scope)))

pub next_none : (t : Contents) (list : List ScopeId) (k : ScopeId) (s : Scope) → k.0 ≡ length list → AreOutermost t.scopes list →
    slice_get t.scopes k.0 ≡ Some s → s.home ≡ None → AreOutermost t.scopes (list ++ k ∷ [])
next_none t list k s next are stands home = one_more t.scopes list k are (subst (λ (j : ℕ). IsOutermost t.scopes j k.0) next (o.itself k.0 s stands home))

pub next_some : (t : Contents) (list : List ScopeId) (k : ScopeId) (s : Scope) (h : ScopeId) → IsCore t → k.0 ≡ length list → AreOutermost t.scopes list →
    slice_get t.scopes k.0 ≡ Some s → s.home ≡ Some h → AreOutermost t.scopes (list ++ outermost_of list h ∷ [])
next_some t list k s h core next are stands home =
    let below : h.0 < k.0 = subst (λ (x : Option ScopeId). IfSome x (λ (y : ScopeId). y.0 < k.0)) home (core.scopes k.0 s stands).home in
    let m = outermost_of list h in
    let inner = outermost_at t.scopes list h are (omega (arith, below, next)) in
    one_more t.scopes list m are (subst (λ (j : ℕ). IsOutermost t.scopes j m.0) next (o.inside k.0 m.0 s h stands home inner))

-- a scope is its own outermost one, or that of its home is its own
outwards_from : (scopes : List Scope) (k n : ℕ) → IsOutermost scopes k n → (s : Scope) → slice_get scopes k ≡ Some s →
    ((s.home ≡ None) × (k ≡ n)) ⊎ ((h : ScopeId) × (s.home ≡ Some h) × IsOutermost scopes h.0 n)
outwards_from scopes k n (o.itself j s' at' none) s at = inl (ap (λ (x : Scope). x.home) (same_Some s s' (sym at ∙ at')) ∙ none, refl)
outwards_from scopes k n (o.inside j m s' h at' home more) s at = inr (h, ap (λ (x : Scope). x.home) (same_Some s s' (sym at ∙ at')) ∙ home, more)

no_home : (h : ScopeId) (x : Option ScopeId) → x ≡ None → x ≡ Some h → ⊥
no_home h x none some = let clash : None ≡ Some h = sym none ∙ some in cc

unique : (scopes : List Scope) (k m n : ℕ) → IsOutermost scopes k m → IsOutermost scopes k n → m ≡ n
unique scopes k m n (o.itself j s at none) q = elim (outwards_from scopes j n q s at) [
  | inl w ↦ w.1
  | inr w ↦ absurd (no_home w.0 s.home none w.1)
]
unique scopes k m n (o.inside j m' s h at home more) q = elim (outwards_from scopes j n q s at) [
  | inl w ↦ absurd (no_home h s.home w.0 home)
  | inr w ↦ unique scopes h.0 m' n more (subst (λ (x : ScopeId). IsOutermost scopes x.0 n) (same_Some w.0 h (sym w.1 ∙ home)) w.2)
]

outermost_low : (scopes : List Scope) (k m : ℕ) → IsOutermost scopes k m → m < length scopes
outermost_low scopes k m (o.itself j s at none) = slice_get_within scopes j s at
outermost_low scopes k m (o.inside j m' s h at home more) = outermost_low scopes h.0 m' more

-- ---- marks

record Marks (list : List ScopeId) (rows : List Row) (m : ℕ) : Type 0 where
  node : ℕ
  row : Row
  stands : slice_get rows node ≡ Some row
  form : is_yield row.form ≡ true
  target : (outermost_of list row.within.scope).0 ≡ m

bool_cases : (b : Bool) → (b ≡ true) ⊎ (b ≡ false)
bool_cases true = inl refl
bool_cases false = inr refl

if_true : (b : Bool) (x y : List Bool) → b ≡ true → (if b then x else y) ≡ x
if_true true x y e = refl
if_true false x y e = absurd cc

if_false : (b : Bool) (x y : List Bool) → b ≡ false → (if b then x else y) ≡ y
if_false true x y e = absurd cc
if_false false x y e = refl

marked_yield : (list : List ScopeId) (flags : List Bool) (row : Row) → is_yield row.form ≡ true → marked list flags row ≡ slice_set flags (outermost_of list row.within.scope).0 true
marked_yield list flags row e = if_true (is_yield row.form) (slice_set flags (outermost_of list row.within.scope).0 true) flags e

marked_other : (list : List ScopeId) (flags : List Bool) (row : Row) → is_yield row.form ≡ false → marked list flags row ≡ flags
marked_other list flags row e = if_false (is_yield row.form) (slice_set flags (outermost_of list row.within.scope).0 true) flags e

length_marked : (list : List ScopeId) (flags : List Bool) (row : Row) → length (marked list flags row) ≡ length flags
length_marked list flags row = elim (bool_cases (is_yield row.form)) [
  | inl e ↦ ap length (marked_yield list flags row e) ∙ length-set flags (outermost_of list row.within.scope).0 true
  | inr e ↦ ap length (marked_other list flags row e)
]

length_marked_all : (list : List ScopeId) (flags : List Bool) (rows : List Row) → length (marked_all list flags rows) ≡ length flags
length_marked_all list flags [] = refl
length_marked_all list flags (row ∷ rows) = length_marked_all list (marked list flags row) rows ∙ length_marked list flags row

set_there : (flags : List Bool) (k m : ℕ) → m < length flags → m ≡ k → get_or (set flags k true) m false ≡ true
set_there flags k m low e = subst (λ (j : ℕ). get_or (set flags j true) m false ≡ true) e (get_or-set_same flags m true false low)

-- a flag that is set after a row was set before, or it is that of the row
one_mark : (list : List ScopeId) (flags : List Bool) (row : Row) (m : ℕ) → get_or (marked list flags row) m false ≡ true →
    (get_or flags m false ≡ true) ⊎ ((is_yield row.form ≡ true) × ((outermost_of list row.within.scope).0 ≡ m))
one_mark list flags row m e = elim (bool_cases (is_yield row.form)) [
  | inr other ↦ inl (ap (λ (l : List Bool). get_or l m false) (sym (marked_other list flags row other)) ∙ e)
  | inl is ↦
      let k = (outermost_of list row.within.scope).0 in
      let e' : get_or (set flags k true) m false ≡ true = ap (λ (l : List Bool). get_or l m false) (sym (marked_yield list flags row is)) ∙ e in
      elim (cases_lt m k) [
        | inl below ↦ inl (sym (get_or-set_other flags k m true false (λ same. omega (arith, below, same))) ∙ e')
        | inr above ↦ elim (cases_lt k m) [
          | inl over ↦ inl (sym (get_or-set_other flags k m true false (λ same. omega (arith, over, same))) ∙ e')
          | inr under ↦ inr (is, omega (arith, above, under))
        ]
      ]
]

kept_mark : (list : List ScopeId) (flags : List Bool) (row : Row) (m : ℕ) → m < length flags → get_or flags m false ≡ true → get_or (marked list flags row) m false ≡ true
kept_mark list flags row m low e = elim (bool_cases (is_yield row.form)) [
  | inr other ↦ ap (λ (l : List Bool). get_or l m false) (marked_other list flags row other) ∙ e
  | inl is ↦
      let k = (outermost_of list row.within.scope).0 in
      ap (λ (l : List Bool). get_or l m false) (marked_yield list flags row is) ∙ elim (cases_lt m k) [
        | inl below ↦ get_or-set_other flags k m true false (λ same. omega (arith, below, same)) ∙ e
        | inr above ↦ elim (cases_lt k m) [
          | inl over ↦ get_or-set_other flags k m true false (λ same. omega (arith, over, same)) ∙ e
          | inr under ↦ set_there flags k m low (omega (arith, above, under))
        ]
      ]
]

-- what is set at the end was set at first, or some row marks it
from_marks : (list : List ScopeId) (flags : List Bool) (rows : List Row) (m : ℕ) → get_or (marked_all list flags rows) m false ≡ true → (get_or flags m false ≡ true) ⊎ Marks list rows m
from_marks list flags [] m e = inl e
from_marks list flags (row ∷ rows) m e = elim (from_marks list (marked list flags row) rows m e) [
  | inl now ↦ elim (one_mark list flags row m now) [
    | inl old ↦ inl old
    | inr new ↦ inr (record { node = 0; row = row; stands = refl; form = new.0; target = new.1 })
  ]
  | inr later ↦ inr (record { node = suc later.node; row = later.row; stands = later.stands; form = later.form; target = later.target })
]

kept_marks : (list : List ScopeId) (flags : List Bool) (rows : List Row) (m : ℕ) → m < length flags → get_or flags m false ≡ true → get_or (marked_all list flags rows) m false ≡ true
kept_marks list flags [] m low e = e
kept_marks list flags (row ∷ rows) m low e =
    let len = length_marked list flags row in
    kept_marks list (marked list flags row) rows m (omega (arith, low, len)) (kept_mark list flags row m low e)

to_marks : (list : List ScopeId) (flags : List Bool) (rows : List Row) (m n : ℕ) (row : Row) → m < length flags → slice_get rows n ≡ Some row →
    is_yield row.form ≡ true → (outermost_of list row.within.scope).0 ≡ m → get_or (marked_all list flags rows) m false ≡ true
to_marks list flags [] m n row low at form target = absurd cc
to_marks list flags (first ∷ rows) m zero row low at form target =
    let same : first ≡ row = same_Some first row at in
    let len = length_marked list flags first in
    let form' : is_yield first.form ≡ true = ap (λ (r : Row). is_yield r.form) same ∙ form in
    let target' : (outermost_of list first.within.scope).0 ≡ m = ap (λ (r : Row). (outermost_of list r.within.scope).0) same ∙ target in
    kept_marks list (marked list flags first) rows m (omega (arith, low, len))
    (ap (λ (l : List Bool). get_or l m false) (marked_yield list flags first form') ∙ set_there flags (outermost_of list first.within.scope).0 m low (sym target'))
to_marks list flags (first ∷ rows) m (suc n) row low at form target =
    let len = length_marked list flags first in
    to_marks list (marked list flags first) rows m n row (omega (arith, low, len)) at form target

yield_form : (form : Form) → is_yield form ≡ true → form ≡ f.Yield
yield_form f.Yield e = refl
yield_form form e = absurd cc

none_first : (n m : ℕ) → get_or (replicate n false) m false ≡ true → ⊥
none_first n m e = elim (cases_lt m n) [
  | inl low ↦ let never : false ≡ true = sym (get_or-replicate n m false false low) ∙ e in cc
  | inr past ↦ let len = length-replicate n false in let never : false ≡ true = sym (get_or_past (replicate n false) m false (omega (arith, past, len))) ∙ e in cc
]

-- the flags at the end say which scopes have a `yield`
pub say_which : (t : Contents) (list : List ScopeId) → IsCore t → length list ≡ length t.scopes → AreOutermost t.scopes list →
    SayWhichYield t (marked_all list (replicate (length t.scopes) false) t.rows)
say_which t list core many are =
    let none = replicate (length t.scopes) false in
    let len = length-replicate (length t.scopes) false in
    let known : (n : ℕ) (row : Row) → slice_get t.rows n ≡ Some row → IsOutermost t.scopes row.within.scope.0 (outermost_of list row.within.scope).0 =
    λ n row at. let low = (core.rows n row at).scope in outermost_at t.scopes list row.within.scope are (omega (arith, low, many)) in
    record {
      many = length_marked_all list none t.rows ∙ len;
      each = λ m. (
        λ e. elim (from_marks list none t.rows m e) [
          | inl old ↦ absurd (none_first (length t.scopes) m old)
          | inr mark ↦ record {
            node = mark.node;
            row = mark.row;
            stands = mark.stands;
            form = yield_form mark.row.form mark.form;
            inside = subst (λ (j : ℕ). IsOutermost t.scopes mark.row.within.scope.0 j) mark.target (known mark.node mark.row mark.stands);
          }
        ],
        λ has.
            let low = outermost_low t.scopes has.row.within.scope.0 m has.inside in
            to_marks list none t.rows m has.node has.row (omega (arith, low, len)) has.stands (ap is_yield has.form)
            (unique t.scopes has.row.within.scope.0 (outermost_of list has.row.within.scope).0 m (known has.node has.row has.stands) has.inside),
      );
    }

-- the flags behind a loop over the rows, which were all clear before it
pub says : (t : Contents) (list : List ScopeId) (flags first : List Bool) (rows : List Row) (n count : ℕ) → IsCore t → rows ≡ t.rows →
    length list ≡ length t.scopes → AreOutermost t.scopes list → count ≡ length t.scopes → first ≡ replicate count false → length rows ≤ n →
    marked_all list flags (drop n rows) ≡ marked_all list first rows → SayWhichYield t flags
says t list flags first rows n count core same many are counted start past along =
    let clear = replicate (length t.scopes) false in
    let last : marked_all list flags (drop n rows) ≡ flags = at_drop_all (marked_all list flags) rows n past in
    let began : first ≡ clear = start ∙ ap (λ (k : ℕ). replicate k false) counted in
    let e : flags ≡ marked_all list clear t.rows =
    sym last ∙ along ∙ ap (λ (fs : List Bool). marked_all list fs rows) began ∙ ap (λ (rs : List Row). marked_all list clear rs) same in
    subst (λ (fs : List Bool). SayWhichYield t fs) (sym e) (say_which t list core many are)

-- Tests of a row tell its offences.
use Rattle.std.proofs.Common.{◌≡◌, ℕ, suc, ◌<◌, inl, inr, Bool, true, false, ◌&&◌, List, [], ◌∷◌, length, get_or, Some, refl, sym, ap, ◌∙◌, ◌↔◌, IsTrue, rules, arith}
use Rattle.std.specs.Prelude.{not, slice_get, Contains}
use Rattle.std.specs.List.{list_all}
use Rattle.std.proofs.lemmas.Bool.{cases_Bool, and_parts, and_from, and_cases, and_left, and_right, not-true, both_ways}
use Rattle.std.proofs.lemmas.List.Folds.{list_all_at}
use Rattle.std.proofs.lemmas.Option.{same_Some, slice_get_read}
use Rattle.cr_base.specs.declared.ids.NameId.{NameId}
use Rattle.cr_base.specs.declared.ids.NodeId.{NodeId}
use Rattle.cr_core.specs.declared.form.Form.{Form}
use Rattle.cr_core.specs.declared.form.Form.TheVariants as f
use Rattle.cr_core.specs.declared.row.Row.{Row}
use Rattle.cr_core.specs.Tree.{Contents, IsCore}
use Rattle.cr_shapes.specs.declared.offence.What.{What}
use Rattle.cr_shapes.specs.declared.offence.What.TheVariants.{NeedType, YieldInSpawn, TypeTooDeep}
use Rattle.cr_shapes.specs.Deciding.{has_entries, tell_types, needs_type, is_too_deep}
use Rattle.cr_shapes.specs.Obvious.{is_obvious, is_untyped}
use Rattle.cr_shapes.specs.Offences.{IsRow, IsUntyped, IsOffence}
use Rattle.cr_shapes.specs.Offences as o
use Rattle.cr_shapes.specs.Spawned.{IsSpawned}
use Rattle.cr_shapes.specs.Homes.{IsSpawnedScope}
use Rattle.cr_shapes.specs.Written.{is_atom, is_argument, is_deeper, deepest}
use Rattle.cr_shapes.proofs.Scoped.{by_scope}

same_row : (t : Contents) (n : ℕ) (row r : Row) → IsRow t n row → IsRow t n r → row ≡ r
same_row t n row r at there = same_Some row r (sym at ∙ there)

pub row_at : (t : Contents) (rows : List Row) (n : ℕ) (r : Row) → rows ≡ t.rows → n < length t.rows → r ≡ get_or rows n r → IsRow t n r
row_at t rows n r same low is =
    let len = ap (λ (l : List Row). length l) same in
    ap (λ (l : List Row). slice_get l n) (sym same) ∙ slice_get_read rows (length rows) n r refl (omega (arith, len, low)) is

along : {X : Type 0} (h : Row → X) (row r : Row) (x : X) → row ≡ r → h r ≡ x → h row ≡ x
along h row r x same is = ap h same ∙ is

not_false : (b : Bool) → b ≡ false → not b ≡ true
not_false b e = ap not e

-- ---- literals

not_all : {X : Type 0} (p : X → Bool) (xs : List X) → list_all p xs ≡ false → (x : X) × Contains xs x × (p x ≡ false)
not_all p [] e = absurd cc
not_all p (x ∷ xs) e = elim (cases_Bool (p x)) [
  | inl good ↦
      let rest : list_all p xs ≡ false = sym (ap (λ (b : Bool). b && list_all p xs) good) ∙ e in
      let more = not_all p xs rest in
      (more.0, (suc more.1.0, omega (arith, more.1.1), more.1.2), more.2)
  | inr bad ↦ (x, (0, omega arith, refl), bad)
]

no_entries : (xs : List NodeId) → has_entries xs ≡ false → xs ≡ []
no_entries [] e = refl
no_entries (x ∷ xs) e = absurd cc

untold : (rows : List Row) (row : Row) → needs_type rows row ≡ true → tell_types rows row.parts ≡ false
untold rows row e = not-true (tell_types rows row.parts) (and_parts (is_untyped row.form) (not (tell_types rows row.parts)) e).1

need_from : (t : Contents) (n : ℕ) (row : Row) → IsRow t n row → needs_type t.rows row ≡ true → IsOffence t n NeedType
need_from t n row at e =
    let literal : IsUntyped t n row = record { stands = at; form = (and_parts (is_untyped row.form) (not (tell_types t.rows row.parts)) e).0 } in
    elim (and_cases (has_entries row.parts) (list_all (is_obvious t.rows) row.parts) (untold t.rows row e)) [
      | inl none ↦ o.no_entry row literal (no_entries row.parts none)
      | inr some ↦ let bad = not_all (is_obvious t.rows) row.parts some in o.not_obvious row bad.0 literal bad.1 bad.2
    ]

seen_untyped : (t : Contents) (n : ℕ) (row r : Row) → IsRow t n row → IsUntyped t n r → tell_types t.rows r.parts ≡ false → needs_type t.rows row ≡ true
seen_untyped t n row r at literal untold =
    along (needs_type t.rows) row r true (same_row t n row r at literal.stands)
    (and_from (is_untyped r.form) (not (tell_types t.rows r.parts)) literal.form (not_false (tell_types t.rows r.parts) untold))

-- ---- types

atom_form : (form : Form) → is_atom (Some form) ≡ true → (name : NameId) × (form ≡ f.Atom name)
atom_form (f.Atom name) e = (name, refl)
atom_form form e = absurd cc

deep_from : (t : Contents) (n : NodeId) (row : Row) → IsRow t n.0 row → is_too_deep t.rows n row ≡ true → IsOffence t n.0 TypeTooDeep
deep_from t n row at e =
    let outer = and_parts (is_atom (Some row.form) && not (is_argument t.rows row)) (is_deeper t.rows deepest n) e in
    let inner = and_parts (is_atom (Some row.form)) (not (is_argument t.rows row)) outer.0 in
    let atom = atom_form row.form inner.0 in
    o.deep row atom.0 at atom.1 (not-true (is_argument t.rows row) inner.1) outer.1

-- ---- what is seen

-- what the tests tell of a node where it commits an offence
abbrev Seen : Contents → NodeId → Row → What → Type 0
Seen t n row NeedType = needs_type t.rows row ≡ true
Seen t n row YieldInSpawn = (row.form ≡ f.Yield) × IsSpawned t.rows n.0
Seen t n row TypeTooDeep = is_too_deep t.rows n row ≡ true

seen : (t : Contents) (n : NodeId) (row : Row) (what : What) → IsRow t n.0 row → IsOffence t n.0 what → Seen t n row what
seen t n row _ at (o.no_entry r literal none) =
    seen_untyped t n.0 row r at literal (and_left (has_entries r.parts) (list_all (is_obvious t.rows) r.parts) (ap has_entries none))
seen t n row _ at (o.not_obvious r entry literal has bad) =
    let wrong : list_all (is_obvious t.rows) r.parts ≡ false = list_all_at (is_obvious t.rows) r.parts has.0 entry has.1 (ap (is_obvious t.rows) has.2 ∙ bad) in
    seen_untyped t n.0 row r at literal (and_right (has_entries r.parts) (list_all (is_obvious t.rows) r.parts) wrong)
seen t n row _ at (o.spawned r stands form spawned) =
    (ap (λ (x : Row). x.form) (same_row t n.0 row r at stands) ∙ form, spawned)
seen t n row _ at (o.deep r name stands form outer deeper) =
    along (is_too_deep t.rows n) row r true (same_row t n.0 row r at stands)
    (and_from (is_atom (Some r.form) && not (is_argument t.rows r)) (is_deeper t.rows deepest n)
    (and_from (is_atom (Some r.form)) (not (is_argument t.rows r)) (ap (λ (x : Form). is_atom (Some x)) form) (not_false (is_argument t.rows r) outer)) deeper)

-- ---- answers of code

is_true : (b : Bool) → b ≡ true → IsTrue b
is_true true e = search rules
is_true false e = absurd cc

from_true : (b : Bool) → IsTrue b → b ≡ true
from_true true h = refl
from_true false h = absurd (search rules)

pub need_decided : (t : Contents) (n : NodeId) (row : Row) (r : Bool) → IsRow t n.0 row → r ≡ needs_type t.rows row → IsTrue r ↔ IsOffence t n.0 NeedType
need_decided t n row r at same = (λ h. need_from t n.0 row at (sym same ∙ from_true r h), λ offence. is_true r (same ∙ seen t n row NeedType at offence))

pub deep_decided : (t : Contents) (n : NodeId) (row : Row) (r : Bool) → IsRow t n.0 row → r ≡ is_too_deep t.rows n row → IsTrue r ↔ IsOffence t n.0 TypeTooDeep
deep_decided t n row r at same = (λ h. deep_from t n row at (sym same ∙ from_true r h), λ offence. is_true r (same ∙ seen t n row TypeTooDeep at offence))

pub yield_decided : (t : Contents) (n : NodeId) (row : Row) (r : Bool) → IsRow t n.0 row → IsCore t → row.form ≡ f.Yield → (IsTrue r ↔ IsSpawnedScope t.scopes row.within.scope.0) → IsTrue r ↔ IsOffence t n.0 YieldInSpawn
yield_decided t n row r at core form says =
    let same = by_scope t n.0 row core at form in
    (λ h. o.spawned row at form (same.0 (says.0 h)), λ offence. says.1 (same.1 (seen t n row YieldInSpawn at offence).1))

pub no_yield : (t : Contents) (n : NodeId) (row : Row) → IsRow t n.0 row → (row.form ≡ f.Yield → ⊥) → IsTrue false ↔ IsOffence t n.0 YieldInSpawn
no_yield t n row at other = (λ h. absurd (search rules), λ offence. absurd (other (seen t n row YieldInSpawn at offence).0))

-- ---- what is no offence

pub no_need : (t : Contents) (n : NodeId) (row : Row) → IsRow t n.0 row → needs_type t.rows row ≡ false → ¬ (IsOffence t n.0 NeedType)
no_need t n row at passes offence = both_ways (needs_type t.rows row) passes (seen t n row NeedType at offence)

pub not_deep : (t : Contents) (n : NodeId) (row : Row) → IsRow t n.0 row → is_too_deep t.rows n row ≡ false → ¬ (IsOffence t n.0 TypeTooDeep)
not_deep t n row at passes offence = both_ways (is_too_deep t.rows n row) passes (seen t n row TypeTooDeep at offence)

pub not_spawned : (t : Contents) (n : NodeId) (row : Row) → IsRow t n.0 row → ¬ (IsSpawned t.rows n.0) → ¬ (IsOffence t n.0 YieldInSpawn)
not_spawned t n row at outside offence = outside (seen t n row YieldInSpawn at offence).1

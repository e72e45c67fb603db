-- The own classes and modules, and their places.
use Rattle.std.proofs.Common.{◌≡◌, ℕ, zero, suc, ◌+◌, ◌<◌, inl, inr, Bool, cond, List, [], ◌∷◌, length, map, Option, Some, None, refl, sym, ap, ◌∙◌, subst, arith}
use Rattle.std.proofs.Math.ListN.{replicate}
use Rattle.std.specs.Prelude.{slice_get, is_some, not, ◌&&◌, All, unwrap_or}
use Rattle.std.specs.List.{cons_option}
use Rattle.std.proofs.lemmas.Option.{same_Some}
use Rattle.std.proofs.lemmas.List.{length-map}
use Rattle.cr_base.specs.declared.ids.NameId.{NameId}
use Rattle.cr_core.specs.declared.row.Row.{Row}
use Rattle.cr_core.specs.Tree.{Contents, IsCore, HasName, names_of}
use Rattle.cr_names.specs.declared.kind.Kind.TheVariants as k
use Rattle.cr_names.specs.Names.{declared_by, is_there, own_at, own_from, own_names, own_keys, own_place, built_in, first, is_key, is_path, place_of_path, lines}
use Rattle.cr_names.specs.declared.kind.Kind.{Kind}
use Rattle.cr_names.specs.Tables.{by_name, told, noted_from, Naming, table_of}
use Rattle.cr_names.proofs.Places.{position_low, position_from_low}
use Rattle.cr_names.proofs.Noted.{AreBelow, declared_known, places_told, test_cases}

own_at_is : (built first : NameId → Option ℕ) (n : ℕ) (o : Option NameId) (name : NameId) → own_at built first n o ≡ Some name → o ≡ Some name
own_at_is built first n None name e = e
own_at_is built first n (Some other) name e =
    let test = not (is_some (built other)) && is_there n (first other) in
    elim (test_cases test) [
      | inl passed ↦ ap (λ (b : Bool). cond b (Some other) None) (sym passed) ∙ e
      | inr failed ↦ let clash : None ≡ Some name = ap (λ (b : Bool). cond b (Some other) None) (sym failed) ∙ e in absurd cc
    ]

some_below : (count : ℕ) (x : NameId) (names : List NameId) → x.0 < count → AreBelow count (own_keys names) → (i : ℕ) (name : NameId) → slice_get (own_keys (x ∷ names)) i ≡ Some (Some name) → name.0 < count
some_below count x names here rest zero name e = subst (λ (y : NameId). y.0 < count) (same_Some x name (same_Some (Some x) (Some name) e)) here
some_below count x names here rest (suc i) name e = rest i name e

cons_below : (count : ℕ) (o : Option NameId) (names : List NameId) → ((name : NameId) → o ≡ Some name → name.0 < count) → AreBelow count (own_keys names) → AreBelow count (own_keys (cons_option o names))
cons_below count None names here rest = rest
cons_below count (Some x) names here rest = some_below count x names (here x refl) rest

own_below : (t : Contents) (built first : NameId → Option ℕ) (n : ℕ) (rows : List Row) → ((i : ℕ) (row : Row) → slice_get rows i ≡ Some row → All (HasName t) (names_of row.form)) →
    AreBelow (length t.names) (own_keys (own_from built first n rows))
own_below t built first n [] known = λ i name e. absurd cc
own_below t built first n (row ∷ rows) known =
    cons_below (length t.names) (own_at built first n (declared_by row.form)) (own_from built first (n + 1) rows)
    (λ name e. declared_known t row.form name (own_at_is built first n (declared_by row.form) name e) (known 0 row refl))
    (own_below t built first (n + 1) rows (λ i. known (suc i)))

pub own_told : (t : Contents) (count : ℕ) (own : List NameId) (table : List (Option ℕ)) → IsCore t → own ≡ own_names t → count ≡ length t.names →
    table ≡ noted_from (replicate count None) 0 (own_keys own) → (name : NameId) → by_name table name ≡ own_place t name
unfolding own_names own_place
own_told t count own table core same many is name =
    let below : AreBelow (length t.names) (own_keys (own_names t)) = own_below t (built_in t) (first k.Either t) 0 t.rows (λ i row at. (core.rows i row at).names) in
    places_told count (own_keys (own_names t)) table (subst (λ (n : ℕ). AreBelow n (own_keys (own_names t))) (sym many) below) (is ∙ ap (λ (l : List NameId). noted_from (replicate count None) 0 (own_keys l)) same) name

-- tables that tell the same give the same names
pub own_same : (t : Contents) (built either : List (Option ℕ)) → ((name : NameId) → by_name built name ≡ built_in t name) → ((name : NameId) → by_name either name ≡ first k.Either t name) →
    own_from (by_name built) (by_name either) 0 t.rows ≡ own_names t
unfolding own_names
own_same t built either b e = λ i. own_from (λ name. b name i) (λ name. e name i) 0 t.rows

-- the own names, by what tables of built-in classes and of first declarations tell
pub own_is : (t : Contents) (built either : List (Option ℕ)) (rows : List Row) (own : List NameId) → rows ≡ t.rows → ((name : NameId) → by_name built name ≡ built_in t name) →
    ((name : NameId) → by_name either name ≡ first k.Either t name) → own ≡ own_from (by_name built) (by_name either) 0 rows → own ≡ own_names t
own_is t built either rows own same b e is = is ∙ ap (λ (rs : List Row). own_from (by_name built) (by_name either) 0 rs) same ∙ own_same t built either b e

-- ---- the table of built-in classes

table_told : (names : List (List ℕ)) (n : ℕ) → place_of_path [] ≡ None → told (map place_of_path names) n ≡ place_of_path (unwrap_or (slice_get names n) [])
table_told [] n none = sym none
table_told (text ∷ names) zero none = refl
table_told (text ∷ names) (suc n) none = table_told names n none

no_path : place_of_path [] ≡ None
unfolding place_of_path lines
no_path = refl

pub built_told : (t : Contents) (names : List (List ℕ)) (table : List (Option ℕ)) → names ≡ t.names → table ≡ map place_of_path names → (name : NameId) → by_name table name ≡ built_in t name
built_told t names table same is name =
    ap (λ (l : List (Option ℕ)). told l name.0) is ∙ table_told names name.0 no_path ∙ ap (λ (l : List (List ℕ)). place_of_path (unwrap_or (slice_get l name.0) [])) same

-- what the tables of each kind tell
pub kinds_told : (t : Contents) (n : Naming) → ((name : NameId) → by_name n.classes name ≡ first k.Class t name) → ((name : NameId) → by_name n.modules name ≡ first k.Module t name) →
    ((name : NameId) → by_name n.either name ≡ first k.Either t name) → ((name : NameId) → by_name n.heirs name ≡ first k.Heir t name) →
    ((name : NameId) → by_name n.parameters name ≡ first k.Parameter t name) → (kind : Kind) (name : NameId) → by_name (table_of n kind) name ≡ first kind t name
kinds_told t n a b d e g k.Class = a
kinds_told t n a b d e g k.Module = b
kinds_told t n a b d e g k.Either = d
kinds_told t n a b d e g k.Heir = e
kinds_told t n a b d e g k.Parameter = g

-- ---- numbers of classes

pub built_low : (path : List ℕ) (n : ℕ) → place_of_path path ≡ Some n → n < 100
unfolding place_of_path lines
built_low path n e = let low = position_low (is_path path) lines n e in omega (arith, low)

length_own_keys : (names : List NameId) → length (own_keys names) ≡ length names
length_own_keys names = length-map names (λ (name : NameId). Some name)

pub own_low : (t : Contents) (name : NameId) (n : ℕ) → own_place t name ≡ Some n → n < length (own_names t)
unfolding own_place
own_low t name n e = let low = position_from_low (is_key name) (own_keys (own_names t)) 0 n e in let len = length_own_keys (own_names t) in omega (arith, low, len)

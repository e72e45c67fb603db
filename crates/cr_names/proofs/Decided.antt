-- The tests of a row decide its offences.
use Rattle.std.proofs.Common.{◌≡◌, ◌≢◌, ℕ, ◌⊎◌, inl, inr, Bool, true, false, cond, eqb, List, [], ◌∷◌, length, Option, Some, None, refl, sym, ap, ◌∙◌, subst, eqb-true, eq-eqb, IsTrue, ◌↔◌, rules}
use Rattle.std.specs.Prelude.{not, ◌&&◌, ◌||◌}
use Rattle.std.proofs.lemmas.Option.{same_Some}
use Rattle.cr_base.specs.declared.ids.NameId.{NameId}
use Rattle.cr_core.specs.declared.form.Form.{Form}
use Rattle.cr_core.specs.declared.form.Form.TheVariants as f
use Rattle.cr_core.specs.declared.row.Row.{Row}
use Rattle.cr_core.specs.Tree.{Contents}
use Rattle.cr_names.specs.declared.kind.Kind.TheVariants as k
use Rattle.cr_names.specs.declared.offence.What.{What}
use Rattle.cr_names.specs.declared.offence.What.TheVariants.{UnknownClass, Twice, CyclicParent, BadArity}
use Rattle.cr_names.specs.Names.{built_in, is_built_in, is_made, first, is_module, is_known, is_superclass, type_parameters, is_type_parameter}
use Rattle.cr_names.specs.Offences.{IsRow, IsAtom, in_test, wanted, maker, IsNew, IsClassRow, is_up_to, is_class_by, has_class_parameter, superclass_at, is_word, IsOffence}
use Rattle.cr_names.specs.Offences as o
use Rattle.cr_names.specs.Deciding.{is_unknown_atom, is_unmade, is_wrong_maker, is_unknown_by, is_unknown, same_names, other_parameters_by, is_named, other_superclass_by, other_superclass_than, is_taken_in_source, is_other_kind, is_twice_class, is_twice_by, is_twice, is_bad_arity_by, is_bad_arity}
use Rattle.cr_names.proofs.Noted.{test_cases}

-- ---- tests

or_left : (a b : Bool) → a ≡ true → (a || b) ≡ true
or_left true b e = refl
or_left false b e = absurd cc

or_right : (a b : Bool) → b ≡ true → (a || b) ≡ true
or_right true b e = refl
or_right false b e = e

or_from : (a b : Bool) → (a || b) ≡ true → (a ≡ true) ⊎ (b ≡ true)
or_from true b e = inl refl
or_from false b e = inr e

and_both : (a b : Bool) → a ≡ true → b ≡ true → (a && b) ≡ true
and_both true b e h = h
and_both false b e h = absurd cc

and_from : (a b : Bool) → (a && b) ≡ true → (a ≡ true) × (b ≡ true)
and_from true b e = (refl, e)
and_from false b e = absurd cc

not_from : (a : Bool) → not a ≡ true → a ≡ false
not_from true e = absurd cc
not_from false e = refl

not_to : (a : Bool) → a ≡ false → not a ≡ true
not_to true e = absurd cc
not_to false e = refl

if_true : (b x y : Bool) → b ≡ true → cond b x y ≡ x
if_true true x y e = refl
if_true false x y e = absurd cc

if_false : (b x y : Bool) → b ≡ false → cond b x y ≡ y
if_false true x y e = absurd cc
if_false false x y e = refl

pub same_row : (t : Contents) (n : ℕ) (row other : Row) → IsRow t n row → IsRow t n other → other ≡ row
same_row t n row other at is = same_Some other row (sym is ∙ at)

name_same : (a b : NameId) → a.0 ≡ b.0 → a ≡ b
name_same a b e = λ i. record { 0 = e i }

-- ---- unknown class

unknown_atom : (t : Contents) (n : ℕ) (row : Row) (name : NameId) → IsAtom t n row name → is_unknown_atom t n row name ≡ true → IsOffence t n UnknownClass
unknown_atom t n row name atom e = elim (test_cases (is_type_parameter t n name)) [
  | inl passed ↦ o.test_parameter row name atom (sym (if_true (is_type_parameter t n name) (in_test t row) (not (is_known t name)) passed) ∙ e) passed
  | inr failed ↦ o.unknown row name atom (not_from (is_known t name) (sym (if_false (is_type_parameter t n name) (in_test t row) (not (is_known t name)) failed) ∙ e)) failed
]

unmade : (t : Contents) (n : ℕ) (name : NameId) (place : Option ℕ) → IsNew t n name → built_in t name ≡ place → is_unmade place ≡ true → IsOffence t n UnknownClass
unmade t n name None new is e = absurd cc
unmade t n name (Some place) new is e = o.new_built_in name place new is (not_from (is_made place) e)

wrong_maker : (t : Contents) (n : ℕ) (row : Row) (question block : Bool) (m : Option NameId) → IsRow t n row → row.form ≡ f.New question block → maker t row ≡ m → is_wrong_maker t n m ≡ true → IsOffence t n UnknownClass
wrong_maker t n row question block None at form is e = absurd cc
wrong_maker t n row question block (Some name) at form is e =
    let new : IsNew t n name = record { row = row; question = question; block = block; stands = at; form = form; named = is } in
    elim (or_from (is_module t name || is_type_parameter t n name) (is_unmade (built_in t name)) e) [
      | inl one ↦ elim (or_from (is_module t name) (is_type_parameter t n name) one) [
        | inl module' ↦ o.new_module name new module'
        | inr parameter ↦ o.new_parameter name new parameter
      ]
      | inr un ↦ unmade t n name (built_in t name) new refl un
    ]

unknown_from : (t : Contents) (n : ℕ) (row : Row) (form : Form) → IsRow t n row → row.form ≡ form → is_unknown_by t n row form ≡ true → IsOffence t n UnknownClass
unknown_from t n row (f.Atom name) at is e = unknown_atom t n row name (record { stands = at; form = is }) e
unknown_from t n row (f.Class name None) at is e = absurd cc
unknown_from t n row (f.Class name (Some above)) at is e = o.of_superclass row name above at is (not_from (is_superclass t above) e)
unknown_from t n row (f.Include name) at is e = o.of_include row name at is (not_from (is_module t name) e)
unknown_from t n row (f.New question block) at is e = elim (or_from question (is_wrong_maker t n (maker t row)) e) [
  | inl passed ↦ o.new_question row block at (is ∙ ap (λ (b : Bool). f.New b block) passed)
  | inr wrong ↦ wrong_maker t n row question block (maker t row) at is refl wrong
]
unknown_from t n row form at is e = absurd cc

-- ---- defined twice

names_refl : (names : List NameId) → same_names names names ≡ true
names_refl [] = refl
names_refl (name ∷ names) = and_both (eqb name.0 name.0) (same_names names names) (eq-eqb name.0 name.0 refl) (names_refl names)

names_same : (one other : List NameId) → one ≡ other → same_names one other ≡ true
names_same one other e = subst (λ (names : List NameId). same_names one names ≡ true) e (names_refl one)

names_from : (one other : List NameId) → same_names one other ≡ true → one ≡ other
names_from [] [] e = refl
names_from [] (y ∷ ys) e = absurd cc
names_from (x ∷ xs) [] e = absurd cc
names_from (x ∷ xs) (y ∷ ys) e =
    let both = and_from (eqb x.0 y.0) (same_names xs ys) e in
    let head : x ≡ y = name_same x y (eqb-true x.0 y.0 both.0) in
    let tail : xs ≡ ys = names_from xs ys both.1 in
    cc

other_parameters : (t : Contents) (n : ℕ) (name : NameId) (m : Option ℕ) → IsClassRow t n name → first k.Class t name ≡ m → other_parameters_by t n m ≡ true → IsOffence t n Twice
other_parameters t n name None class is e = absurd cc
other_parameters t n name (Some m) class is e =
    let differ = not_from (same_names (type_parameters t.rows m) (type_parameters t.rows n)) e in
    o.other_parameters name m class is (λ same. let clash = names_same (type_parameters t.rows m) (type_parameters t.rows n) same in cc)

named_from : (name : NameId) (o : Option NameId) → o ≡ Some name → is_named name o ≡ true
named_from name None e = absurd cc
named_from name (Some other) e = let same = same_Some other name e in eq-eqb other.0 name.0 (ap (λ (x : NameId). x.0) same)

named_to : (name : NameId) (o : Option NameId) → is_named name o ≡ true → o ≡ Some name
named_to name None e = absurd cc
named_to name (Some other) e = ap Some (name_same other name (eqb-true other.0 name.0 e))

other_superclass : (t : Contents) (n : ℕ) (row : Row) (name above : NameId) (m : Option ℕ) → IsRow t n row → row.form ≡ f.Class name (Some above) → first k.Heir t name ≡ m →
    other_superclass_by t above m ≡ true → IsOffence t n Twice
other_superclass t n row name above None at is same e = absurd cc
other_superclass t n row name above (Some m) at is same e =
    let differ = not_from (is_named above (superclass_at t m)) e in
    o.other_superclass row name above m at is same (λ named. let passed = named_from above (superclass_at t m) named in let clash : true ≡ false = sym passed ∙ differ in cc)

superclass_than : (t : Contents) (n : ℕ) (row : Row) (name : NameId) (superclass : Option NameId) → IsRow t n row → row.form ≡ f.Class name superclass →
    other_superclass_than t name superclass ≡ true → IsOffence t n Twice
superclass_than t n row name None at is e = absurd cc
superclass_than t n row name (Some above) at is e = other_superclass t n row name above (first k.Heir t name) at is refl e

taken_in_source : (t : Contents) (n : ℕ) (row : Row) (name : NameId) (superclass : Option NameId) → IsRow t n row → row.form ≡ f.Class name superclass → is_taken_in_source t n row name ≡ true → IsOffence t n Twice
taken_in_source t n row name superclass at is e =
    let class : IsClassRow t n name = record { row = row; superclass = superclass; stands = at; form = is } in
    let both = and_from (not row.place.prelude) (is_built_in t name || has_class_parameter t n) e in
    let source = not_from row.place.prelude both.0 in
    elim (or_from (is_built_in t name) (has_class_parameter t n) both.1) [
      | inl built ↦ o.reopened name class source built
      | inr taken ↦ o.class_then_parameter name class source taken
    ]

other_kind : (t : Contents) (n : ℕ) (name : NameId) → IsClassRow t n name → is_other_kind t n name ≡ true → IsOffence t n Twice
other_kind t n name class e = elim (or_from (is_up_to n (first k.Module t name)) (is_up_to n (first k.Parameter t name)) e) [
  | inl module' ↦ o.module_then_class name class module'
  | inr parameter ↦ o.parameter_then_class name class parameter
]

twice_class : (t : Contents) (n : ℕ) (row : Row) (name : NameId) (superclass : Option NameId) → IsRow t n row → row.form ≡ f.Class name superclass →
    is_twice_class t n row name superclass ≡ true → IsOffence t n Twice
twice_class t n row name superclass at is e =
    let class : IsClassRow t n name = record { row = row; superclass = superclass; stands = at; form = is } in
    let a = is_taken_in_source t n row name in
    let b = is_other_kind t n name in
    let d = other_superclass_than t name superclass in
    let g = other_parameters_by t n (first k.Class t name) in
    elim (or_from ((a || b) || d) g e) [
      | inr parameters ↦ other_parameters t n name (first k.Class t name) class refl parameters
      | inl three ↦ elim (or_from (a || b) d three) [
        | inr above ↦ superclass_than t n row name superclass at is above
        | inl two ↦ elim (or_from a b two) [
          | inl taken ↦ taken_in_source t n row name superclass at is taken
          | inr kind ↦ other_kind t n name class kind
        ]
      ]
    ]

twice_from : (t : Contents) (n : ℕ) (row : Row) (form : Form) → IsRow t n row → row.form ≡ form → is_twice_by t n row form ≡ true → IsOffence t n Twice
twice_from t n row (f.Class name superclass) at is e = twice_class t n row name superclass at is e
twice_from t n row (f.Module name) at is e = o.class_then_module row name at is e
twice_from t n row (f.Def name scope result written) at is e = o.of_word row name scope result written at is e
twice_from t n row form at is e = absurd cc

-- ---- wrong number of type arguments

bad_arity_from : (t : Contents) (n : ℕ) (row : Row) (form : Form) → IsRow t n row → row.form ≡ form → is_bad_arity_by t n row form ≡ true → IsOffence t n BadArity
bad_arity_from t n row (f.Atom name) at is e =
    let both = and_from (not (in_test t row)) (not (eqb (length row.parts) (wanted t n name))) e in
    let differ = not_from (eqb (length row.parts) (wanted t n name)) both.1 in
    o.arguments row name (record { stands = at; form = is }) (not_from (in_test t row) both.0)
    (λ same. let passed = eq-eqb (length row.parts) (wanted t n name) same in let clash : true ≡ false = sym passed ∙ differ in cc)
bad_arity_from t n row form at is e = absurd cc

-- ---- each rule is seen

-- the tests of a row, but for what stands above
abbrev pub tests : Contents → ℕ → Row → What → Bool
tests t n row UnknownClass = is_unknown t n row
tests t n row Twice = is_twice t n row
tests t n row CyclicParent = true
tests t n row BadArity = is_bad_arity t n row

by_form : (g : Row → Form → Bool) (row other : Row) (form : Form) → other ≡ row → other.form ≡ form → g row form ≡ true → g row row.form ≡ true
by_form g row other form same is e = subst (λ (x : Form). g row x ≡ true) (sym is ∙ ap (λ (r : Row). r.form) same) e

along : (P : Row → Bool) (row other : Row) (b : Bool) → other ≡ row → P other ≡ b → P row ≡ b
along P row other b same e = subst (λ (r : Row). P r ≡ b) same e

in_taken : (t : Contents) (n : ℕ) (row : Row) (name : NameId) (superclass : Option NameId) → is_taken_in_source t n row name ≡ true → is_twice_class t n row name superclass ≡ true
in_taken t n row name superclass e =
    let a = is_taken_in_source t n row name in
    let b = is_other_kind t n name in
    let d = other_superclass_than t name superclass in
    or_left ((a || b) || d) (other_parameters_by t n (first k.Class t name)) (or_left (a || b) d (or_left a b e))

in_kind : (t : Contents) (n : ℕ) (row : Row) (name : NameId) (superclass : Option NameId) → is_other_kind t n name ≡ true → is_twice_class t n row name superclass ≡ true
in_kind t n row name superclass e =
    let a = is_taken_in_source t n row name in
    let b = is_other_kind t n name in
    let d = other_superclass_than t name superclass in
    or_left ((a || b) || d) (other_parameters_by t n (first k.Class t name)) (or_left (a || b) d (or_right a b e))

in_above : (t : Contents) (n : ℕ) (row : Row) (name : NameId) (superclass : Option NameId) → other_superclass_than t name superclass ≡ true → is_twice_class t n row name superclass ≡ true
in_above t n row name superclass e =
    let ab = is_taken_in_source t n row name || is_other_kind t n name in
    let d = other_superclass_than t name superclass in
    or_left (ab || d) (other_parameters_by t n (first k.Class t name)) (or_right ab d e)

source_taken : (t : Contents) (n : ℕ) (row : Row) (name : NameId) → row.place.prelude ≡ false → (is_built_in t name || has_class_parameter t n) ≡ true → is_taken_in_source t n row name ≡ true
source_taken t n row name source e = and_both (not row.place.prelude) (is_built_in t name || has_class_parameter t n) (not_to row.place.prelude source) e

unlike : (one other : List NameId) → one ≢ other → not (same_names one other) ≡ true
unlike one other differ = elim (test_cases (same_names one other)) [
  | inl same ↦ absurd (differ (names_from one other same))
  | inr failed ↦ not_to (same_names one other) failed
]

unnamed : (name : NameId) (o : Option NameId) → o ≢ Some name → not (is_named name o) ≡ true
unnamed name o differ = elim (test_cases (is_named name o)) [
  | inl same ↦ absurd (differ (named_to name o same))
  | inr failed ↦ not_to (is_named name o) failed
]

apart : (m n : ℕ) → m ≢ n → not (eqb m n) ≡ true
apart m n differ = elim (test_cases (eqb m n)) [
  | inl same ↦ absurd (differ (eqb-true m n same))
  | inr failed ↦ not_to (eqb m n) failed
]

seen_maker : (t : Contents) (n : ℕ) (row : Row) (name : NameId) → IsRow t n row → IsNew t n name → is_wrong_maker t n (Some name) ≡ true → is_unknown t n row ≡ true
seen_maker t n row name at new wrong =
    let same = same_row t n row new.row at new.stands in
    let named : maker t row ≡ Some name = subst (λ (r : Row). maker t r ≡ Some name) same new.named in
    by_form (is_unknown_by t n) row new.row (f.New new.question new.block) same new.form (or_right new.question (is_wrong_maker t n (maker t row)) (ap (is_wrong_maker t n) named ∙ wrong))

pub each_seen : (t : Contents) (n : ℕ) (row : Row) (what : What) → IsRow t n row → IsOffence t n what → tests t n row what ≡ true
each_seen t n row _ at (o.unknown r name atom unknown none) =
    let same = same_row t n row r at atom.stands in
    by_form (is_unknown_by t n) row r (f.Atom name) same atom.form
    (if_false (is_type_parameter t n name) (in_test t row) (not (is_known t name)) none ∙ not_to (is_known t name) unknown)
each_seen t n row _ at (o.test_parameter r name atom test parameter) =
    let same = same_row t n row r at atom.stands in
    by_form (is_unknown_by t n) row r (f.Atom name) same atom.form
    (if_true (is_type_parameter t n name) (in_test t row) (not (is_known t name)) parameter ∙ along (in_test t) row r true same test)
each_seen t n row _ at (o.of_superclass r name above stands form not_one) =
    by_form (is_unknown_by t n) row r (f.Class name (Some above)) (same_row t n row r at stands) form (not_to (is_superclass t above) not_one)
each_seen t n row _ at (o.of_include r name stands form not_one) = by_form (is_unknown_by t n) row r (f.Include name) (same_row t n row r at stands) form (not_to (is_module t name) not_one)
each_seen t n row _ at (o.new_question r block stands form) = by_form (is_unknown_by t n) row r (f.New true block) (same_row t n row r at stands) form refl
each_seen t n row _ at (o.new_module name new module') =
    seen_maker t n row name at new (or_left (is_module t name || is_type_parameter t n name) (is_unmade (built_in t name)) (or_left (is_module t name) (is_type_parameter t n name) module'))
each_seen t n row _ at (o.new_parameter name new parameter) =
    seen_maker t n row name at new (or_left (is_module t name || is_type_parameter t n name) (is_unmade (built_in t name)) (or_right (is_module t name) (is_type_parameter t n name) parameter))
each_seen t n row _ at (o.new_built_in name place new is not_made) =
    seen_maker t n row name at new (or_right (is_module t name || is_type_parameter t n name) (is_unmade (built_in t name)) (ap is_unmade is ∙ not_to (is_made place) not_made))
each_seen t n row _ at (o.reopened name class source built) =
    let same = same_row t n row class.row at class.stands in
    let here = along (λ (r : Row). r.place.prelude) row class.row false same source in
    by_form (is_twice_by t n) row class.row (f.Class name class.superclass) same class.form
    (in_taken t n row name class.superclass (source_taken t n row name here (or_left (is_built_in t name) (has_class_parameter t n) built)))
each_seen t n row _ at (o.of_word r name scope result written stands form word) = by_form (is_twice_by t n) row r (f.Def name scope result written) (same_row t n row r at stands) form word
each_seen t n row _ at (o.other_parameters name m class is differ) =
    let same = same_row t n row class.row at class.stands in
    let a = (is_taken_in_source t n row name || is_other_kind t n name) || other_superclass_than t name class.superclass in
    let g = other_parameters_by t n (first k.Class t name) in
    by_form (is_twice_by t n) row class.row (f.Class name class.superclass) same class.form
    (or_right a g (ap (other_parameters_by t n) is ∙ unlike (type_parameters t.rows m) (type_parameters t.rows n) differ))
each_seen t n row _ at (o.other_superclass r name above m stands form is differ) =
    by_form (is_twice_by t n) row r (f.Class name (Some above)) (same_row t n row r at stands) form
    (in_above t n row name (Some above) (ap (other_superclass_by t above) is ∙ unnamed above (superclass_at t m) differ))
each_seen t n row _ at (o.module_then_class name class there) =
    by_form (is_twice_by t n) row class.row (f.Class name class.superclass) (same_row t n row class.row at class.stands) class.form
    (in_kind t n row name class.superclass (or_left (is_up_to n (first k.Module t name)) (is_up_to n (first k.Parameter t name)) there))
each_seen t n row _ at (o.class_then_module r name stands form there) = by_form (is_twice_by t n) row r (f.Module name) (same_row t n row r at stands) form there
each_seen t n row _ at (o.parameter_then_class name class there) =
    by_form (is_twice_by t n) row class.row (f.Class name class.superclass) (same_row t n row class.row at class.stands) class.form
    (in_kind t n row name class.superclass (or_right (is_up_to n (first k.Module t name)) (is_up_to n (first k.Parameter t name)) there))
each_seen t n row _ at (o.class_then_parameter name class source taken) =
    let same = same_row t n row class.row at class.stands in
    let here = along (λ (r : Row). r.place.prelude) row class.row false same source in
    by_form (is_twice_by t n) row class.row (f.Class name class.superclass) same class.form
    (in_taken t n row name class.superclass (source_taken t n row name here (or_right (is_built_in t name) (has_class_parameter t n) taken)))
each_seen t n row _ at (o.cyclic r name stands declares is above) = refl
each_seen t n row _ at (o.arguments r name atom test differ) =
    let same = same_row t n row r at atom.stands in
    let not_test = not_to (in_test t row) (along (in_test t) row r false same test) in
    let count : length row.parts ≢ wanted t n name = subst (λ (x : Row). length x.parts ≢ wanted t n name) same differ in
    by_form (is_bad_arity_by t n) row r (f.Atom name) same atom.form
    (and_both (not (in_test t row)) (not (eqb (length row.parts) (wanted t n name))) not_test (apart (length row.parts) (wanted t n name) count))

-- ---- what is decided

pub record Decides (t : Contents) (n : ℕ) (what : What) (b : Bool) : Type 0 where
  pub found : b ≡ true → IsOffence t n what
  pub seen : IsOffence t n what → b ≡ true

pub unknown_decided : (t : Contents) (n : ℕ) (row : Row) → IsRow t n row → Decides t n UnknownClass (is_unknown t n row)
unknown_decided t n row at = record { found = λ e. unknown_from t n row row.form at refl e; seen = λ offence. each_seen t n row UnknownClass at offence }

pub twice_decided : (t : Contents) (n : ℕ) (row : Row) → IsRow t n row → Decides t n Twice (is_twice t n row)
twice_decided t n row at = record { found = λ e. twice_from t n row row.form at refl e; seen = λ offence. each_seen t n row Twice at offence }

pub bad_arity_decided : (t : Contents) (n : ℕ) (row : Row) → IsRow t n row → Decides t n BadArity (is_bad_arity t n row)
bad_arity_decided t n row at = record { found = λ e. bad_arity_from t n row row.form at refl e; seen = λ offence. each_seen t n row BadArity at offence }

-- ---- answers of code

is_true : (b : Bool) → b ≡ true → IsTrue b
is_true true e = search rules
is_true false e = absurd cc

from_true : (b : Bool) → IsTrue b → b ≡ true
from_true true h = refl
from_true false h = absurd (search rules)

pub answers : (t : Contents) (n : ℕ) (what : What) (b r : Bool) → Decides t n what b → r ≡ b → IsTrue r ↔ IsOffence t n what
answers t n what b r decided same = (λ h. decided.found (sym same ∙ from_true r h), λ offence. is_true r (same ∙ decided.seen offence))

-- How the lists of classes are made.
use Rattle.std.proofs.Common.{◌≡◌, ℕ, zero, suc, ◌+◌, ◌-◌, ◌<◌, ◌≤◌, Bool, true, false, List, [], ◌∷◌, ◌++◌, length, map, get_or, Option, Some, None, refl, sym, ap, ◌∙◌, arith}
use Rattle.std.specs.Prelude.{◌==◌, slice_get, unwrap_or, option_map, if◌then◌else◌}
use Rattle.std.specs.List.{range_with_len}
use Rattle.std.proofs.Math.Path.{fun_ext}
use Rattle.std.proofs.lemmas.List.{map-append, ext_get_or}
use Rattle.std.proofs.lemmas.List.FromFn.{map-range_with_len_more}
use Rattle.std.proofs.lemmas.Option.{get_or_from_slice_get, slice_get-get_or}
use Rattle.std.proofs.lemmas.Simd.{map-map}
use Rattle.cr_base.specs.declared.ids.ClassId.{ClassId}
use Rattle.cr_base.specs.declared.ids.NameId.{NameId}
use Rattle.cr_core.specs.Tree.{Contents}
use Rattle.cr_ancestors.specs.declared.parents.Parents.{Parents}
use Rattle.cr_ancestors.specs.Above.{ups}
use Rattle.cr_ancestors.specs.Line.{AreAll}
use Rattle.cr_ancestors.specs.Reckoned.{ancestors_in}
use Rattle.cr_lookup.specs.declared.method.Place.{Place}
use Rattle.cr_names.specs.Names.{BuiltIn, lines, built_in_count, own_names, is_own_class, class_of_name, class_count}
use Rattle.cr_tables.specs.declared.link.Link.{Link}
use Rattle.cr_tables.specs.Numbers.{class_id, class_named, first_classes, is_class, all_classes}
use Rattle.cr_tables.specs.Hierarchy.{above, parents_of, superclasses_of, superclass_of, inclusions, named_superclasses, hierarchy, all_ancestors}
use Rattle.cr_tables.specs.Methods.{top_level}
use Rattle.cr_tables.specs.Choosing.{own_places}
use Rattle.cr_tables.specs.Tables.{all_kinds, all_places}
use Rattle.cr_tables.specs.Making.{is_kind, superclasses_by, parents_by, all_parents, places_by}
use Rattle.cr_tables.proofs.Kept.{lt_true, lt_false, kind_is, no_kind, class_at, class_total}

-- ---- one more number

pub mapped_more : {A : Type 0} (f : ℕ → A) (n : ℕ) → map f (range_with_len 0 (n + 1)) ≡ map f (range_with_len 0 n) ++ f n ∷ []
mapped_more f n = map-range_with_len_more f 0 n n (omega arith)

pub classes_more : {A : Type 0} (f : ClassId → A) (n : ℕ) → map f (first_classes (n + 1)) ≡ map f (first_classes n) ++ f (class_id n) ∷ []
classes_more f n = ap (map f) (mapped_more class_id n) ∙ map-append f (first_classes n) (class_id n ∷ [])

-- ---- names

pub named_from : (t : Contents) (name : NameId) (r : Option ClassId) → option_map (λ (c : ClassId). c.0) r ≡ class_of_name t name → r ≡ class_named t name
named_from t name None e = ap (option_map class_id) e
named_from t name (Some class) e = ap (option_map class_id) e

-- ---- kinds

some_line : (xs : List BuiltIn) (i : ℕ) → i < length xs → unwrap_or (option_map (λ (line : BuiltIn). true) (slice_get xs i)) false ≡ true
some_line [] i low = absurd (omega (arith, low))
some_line (x ∷ xs) zero low = refl
some_line (x ∷ xs) (suc i) low = some_line xs i (omega (arith, low))

line_there : (i : ℕ) → i < built_in_count → unwrap_or (option_map (λ (line : BuiltIn). true) (slice_get lines i)) false ≡ true
unfolding built_in_count
line_there i low = some_line lines i low

abbrev kind_of_own : Contents → Option NameId → Bool
kind_of_own t name = unwrap_or (option_map (is_own_class t) name) false

abbrev own_kind : Contents → ℕ → Bool
own_kind t place = kind_of_own t (slice_get (own_names t) place)

-- what is known of a number, by whether it is one of these lines
abbrev kind_by : Contents → ℕ → Bool → Bool
kind_by t n inside = if inside then unwrap_or (option_map (λ (line : BuiltIn). true) (slice_get lines n)) false else own_kind t (n - built_in_count)

pub class_in_lines : (t : Contents) (n : ℕ) → n < built_in_count → true ≡ is_class t (class_id n)
unfolding is_class
class_in_lines t n low = sym (ap (kind_by t n) (lt_true n built_in_count low) ∙ line_there n low)

class_behind : (t : Contents) (n : ℕ) → built_in_count ≤ n → is_class t (class_id n) ≡ own_kind t (n - built_in_count)
unfolding is_class
class_behind t n past = ap (kind_by t n) (lt_false n built_in_count past)

pub class_own : (t : Contents) (n : ℕ) (own : List NameId) (name : NameId) (r : Bool) → built_in_count ≤ n → own ≡ own_names t →
    slice_get own (n - built_in_count) ≡ Some name → r ≡ is_own_class t name → r ≡ is_class t (class_id n)
class_own t n own name r past e at is =
    is ∙ sym (class_behind t n past ∙ ap (kind_of_own t) (ap (λ (l : List NameId). slice_get l (n - built_in_count)) (sym e) ∙ at))

pub class_none : (t : Contents) (n : ℕ) (own : List NameId) → built_in_count ≤ n → own ≡ own_names t → slice_get own (n - built_in_count) ≡ None → false ≡ is_class t (class_id n)
class_none t n own past e at =
    sym (class_behind t n past ∙ ap (kind_of_own t) (ap (λ (l : List NameId). slice_get l (n - built_in_count)) (sym e) ∙ at))

-- ---- parents

kind_of : (t : Contents) (class : ClassId) → is_kind (all_kinds t) class ≡ is_class t class
kind_of t class = by (slice_get (all_kinds t) class.0) refl
  where
    by : (o : Option Bool) → slice_get (all_kinds t) class.0 ≡ o → unwrap_or o false ≡ is_class t class
    by None e = no_kind t (all_kinds t) class refl e
    by (Some kind) e = kind_is t (all_kinds t) class kind refl e

module _ (t : Contents) where
  superclasses_are : (class : ClassId) → superclasses_by (all_kinds t) (named_superclasses t) class ≡ superclasses_of t class
  superclasses_are class =
      ap (λ (b : Bool). if class.0 == 0 then [] else if b then superclass_of t class ∷ [] else []) (kind_of t class)

  parents_are : (class : ClassId) → parents_by (all_kinds t) (inclusions t) (named_superclasses t) class ≡ parents_of t class
  parents_are class = ap (λ (l : List ClassId). record { modules = above (inclusions t) class; superclasses = l }) (superclasses_are class)

  ups_are : (class : ClassId) → ups (parents_by (all_kinds t) (inclusions t) (named_superclasses t) class) ≡ ups (parents_of t class)
  ups_are class = ap ups (parents_are class)

  pub hierarchy_made : map ups (all_parents (all_kinds t) (inclusions t) (named_superclasses t)) ≡ hierarchy t
  unfolding hierarchy
  hierarchy_made =
      ap (λ (n : ℕ). map ups (map (parents_by (all_kinds t) (inclusions t) (named_superclasses t)) (first_classes n))) (class_total (is_class t) t)
      ∙ map-map ups (parents_by (all_kinds t) (inclusions t) (named_superclasses t)) (all_classes t)
      ∙ ap (λ (f : ClassId → List ClassId). map f (all_classes t)) (fun_ext ups_are)

pub hierarchy_is : (t : Contents) (kinds : List Bool) (within named : List Link) (parents : List Parents) (h : List (List ClassId)) →
    kinds ≡ all_kinds t → within ≡ inclusions t → named ≡ named_superclasses t → parents ≡ all_parents kinds within named → h ≡ map ups parents →
    h ≡ hierarchy t
hierarchy_is t kinds within named parents h k w n p e =
    e ∙ ap (map ups) p ∙ ap (λ (l : List Bool). map ups (all_parents l within named)) k ∙ ap (λ (l : List Link). map ups (all_parents (all_kinds t) l named)) w
    ∙ ap (λ (l : List Link). map ups (all_parents (all_kinds t) (inclusions t) l)) n ∙ hierarchy_made t

-- ---- ancestors

hierarchy_total : (t : Contents) → length (hierarchy t) ≡ class_count t
unfolding hierarchy
hierarchy_total t = class_total (λ (class : ClassId). ups (parents_of t class)) t

pub ancestors_total : (t : Contents) → length (all_ancestors t) ≡ class_count t
unfolding all_ancestors
ancestors_total t = class_total (ancestors_in (hierarchy t)) t

ancestors_at : (t : Contents) (i : ℕ) → i < class_count t → slice_get (all_ancestors t) i ≡ Some (ancestors_in (hierarchy t) (class_id i))
unfolding all_ancestors
ancestors_at t i low = class_at (ancestors_in (hierarchy t)) t i low

pub lines_are : (t : Contents) (h lines : List (List ClassId)) → h ≡ hierarchy t → AreAll h lines →
    ((class : ClassId) (found : List ClassId) → slice_get lines class.0 ≡ Some found → found ≡ ancestors_in h class) → lines ≡ all_ancestors t
lines_are t h lines e all law = ext_get_or [] lines (all_ancestors t) (many ∙ sym (ancestors_total t)) each
  where
    many : length lines ≡ class_count t
    many = all.many ∙ ap (λ (l : List (List ClassId)). length l) e ∙ hierarchy_total t

    each : (i : ℕ) → i < length lines → get_or lines i [] ≡ get_or (all_ancestors t) i []
    each i low =
        law (class_id i) (get_or lines i []) (slice_get-get_or lines i [] low) ∙ ap (λ (g : List (List ClassId)). ancestors_in g (class_id i)) e
        ∙ sym (get_or_from_slice_get (all_ancestors t) i (ancestors_in (hierarchy t) (class_id i)) [] (ancestors_at t i (omega (arith, low, many))))

-- ---- places

own_places_are : (t : Contents) (class : ClassId) → class.0 < class_count t →
    places_by (class_count t) (ancestors_in (hierarchy t) class) ≡ own_places t class ++ top_level t ∷ []
own_places_are t class low =
    ap (λ (o : Option (List ClassId)). places_by (class_count t) (unwrap_or o [])) (sym (ancestors_at t class.0 low))

map_range : {A : Type 0} (f g : ClassId → A) (n a : ℕ) → ((i : ℕ) → i < a + n → f (class_id i) ≡ g (class_id i)) →
    map f (map class_id (range_with_len a n)) ≡ map g (map class_id (range_with_len a n))
map_range f g zero a h = refl
map_range f g (suc n) a h =
    ap (λ (y : _). y ∷ map f (map class_id (range_with_len (a + 1) n))) (h a (omega arith))
    ∙ ap (λ (l : List _). g (class_id a) ∷ l) (map_range f g n (a + 1) (λ i low. h i (omega (arith, low))))

places_made : (t : Contents) → map (places_by (class_count t)) (all_ancestors t) ≡ all_places t
unfolding all_ancestors
places_made t =
    map-map (places_by (class_count t)) (ancestors_in (hierarchy t)) (all_classes t)
    ∙ map_range (λ (class : ClassId). places_by (class_count t) (ancestors_in (hierarchy t) class)) (λ (class : ClassId). own_places t class ++ top_level t ∷ []) (class_count t) 0
    (λ i low. own_places_are t (class_id i) (omega (arith, low)))

pub places_are : (t : Contents) (top : ℕ) (lines : List (List ClassId)) (places : List (List Place)) → top ≡ class_count t → lines ≡ all_ancestors t →
    places ≡ map (places_by top) lines → places ≡ all_places t
places_are t top lines places c l p =
    p ∙ ap (λ (n : ℕ). map (places_by n) lines) c ∙ ap (map (places_by (class_count t))) l ∙ places_made t

pub counted : (t : Contents) (top : ℕ) (lines : List (List ClassId)) → top ≡ class_count t → lines ≡ all_ancestors t → length lines ≡ top
counted t top ls c l = ap (λ (ls : List (List ClassId)). length ls) l ∙ ancestors_total t ∙ sym c

-- What the kept lists have at a number.
use Rattle.std.proofs.Common.{◌≡◌, ℕ, zero, suc, ◌+◌, ◌<◌, ◌≤◌, Bool, true, false, nat_lt, inl, inr, List, [], ◌∷◌, ◌++◌, length, map, get_or, Option, Some, None, sym, ap, ◌∙◌, subst, arith}
use Rattle.std.specs.Prelude.{slice_get, unwrap_or, option_map, All}
use Rattle.std.specs.List.{range_with_len}
use Rattle.std.proofs.lemmas.List.{length-map}
use Rattle.std.proofs.lemmas.List.FromFn.{length-range_with_len, length-map-range_with_len}
use Rattle.std.proofs.lemmas.Option.{slice_get-map, slice_get_past, slice_get-get_or, same_Some}
use Rattle.cr_base.specs.declared.ids.ClassId.{ClassId}
use Rattle.cr_base.specs.declared.ids.MethodId.{MethodId}
use Rattle.cr_base.specs.declared.ids.NodeId.{NodeId}
use Rattle.cr_core.specs.declared.form.Form.{Form}
use Rattle.cr_core.specs.declared.form.Form.TheVariants as f
use Rattle.cr_core.specs.declared.row.Row.{Row}
use Rattle.cr_core.specs.Tree.{Contents, IsCore, HasName, names_of, form_of}
use Rattle.cr_lookup.specs.declared.method.Method.{Method}
use Rattle.cr_lookup.specs.declared.method.Place.{Place}
use Rattle.cr_lookup.specs.declared.method.Sought.{Sought}
use Rattle.cr_lookup.specs.Methods.{IsCalm}
use Rattle.cr_lookup.specs.Choice.{IsChoice}
use Rattle.std.specs.Prelude.{if◌then◌else◌, ◌-◌}
use Rattle.std.proofs.lemmas.Bool.{cases_lt}
use Rattle.std.proofs.lemmas.Bool.Decides.{nat_tests}
use Rattle.cr_base.specs.declared.ids.NameId.{NameId}
use Rattle.cr_names.specs.Names.{BuiltIn, lines, built_in_count, own_names, is_own_class, class_count}
use Rattle.cr_tables.specs.Numbers.{class_id, all_classes, by_number, is_class, class_named, path, own_path}
use Rattle.cr_ancestors.specs.Reckoned.{ancestors_in}
use Rattle.cr_tables.specs.Hierarchy.{hierarchy, all_ancestors, ancestors}
use Rattle.cr_tables.specs.Types.{class_of_atom, named_class}
use Rattle.cr_tables.specs.Methods.{top_level, place, all_methods}
use Rattle.cr_tables.specs.Choosing.{first_chosen, compared, own_places}
use Rattle.cr_tables.specs.Tables.{Kept, AreTables, IsLawful, all_places, all_named, all_kinds}
use Rattle.cr_tables.proofs.Chosen.{choice_is}

-- the tables are those of what contracts see
pub at_now : (core now : Contents) (kept : Kept) → core ≡ now → AreTables core kept → AreTables now kept
at_now core now kept e h = subst (λ (t : Contents). AreTables t kept) e h

-- ---- lists by the numbers of classes

range_at : (n a i : ℕ) → i < n → slice_get (range_with_len a n) i ≡ Some (a + i)
range_at zero a i low = absurd (omega (arith, low))
range_at (suc n) a zero low = let e : a ≡ a + 0 = omega arith in ap Some e
range_at (suc n) a (suc i) low =
    let e : (a + 1) + i ≡ a + suc i = omega arith in range_at n (a + 1) i (omega (arith, low)) ∙ ap Some e

range_past : (n a i : ℕ) → n ≤ i → slice_get (range_with_len a n) i ≡ None
range_past n a i high = let e = length-range_with_len a n in slice_get_past (range_with_len a n) i (omega (arith, e, high))

module _ {A : Type 0} (f : ClassId → A) (t : Contents) where
  pub class_at : (i : ℕ) → i < class_count t → slice_get (map f (all_classes t)) i ≡ Some (f (class_id i))
  class_at i low =
      slice_get-map f (all_classes t) i
      ∙ ap (option_map f) (slice_get-map class_id (range_with_len 0 (class_count t)) i ∙ ap (option_map class_id) (range_at (class_count t) 0 i low ∙ ap Some zeros))
    where
      zeros : 0 + i ≡ i
      zeros = omega arith

  pub class_past : (i : ℕ) → class_count t ≤ i → slice_get (map f (all_classes t)) i ≡ None
  class_past i high =
      slice_get-map f (all_classes t) i
      ∙ ap (option_map f) (slice_get-map class_id (range_with_len 0 (class_count t)) i ∙ ap (option_map class_id) (range_past (class_count t) 0 i high))

pub class_total : {A : Type 0} (f : ClassId → A) (t : Contents) → length (map f (all_classes t)) ≡ class_count t
class_total f t = length-map (all_classes t) f ∙ length-map-range_with_len class_id 0 (class_count t)

-- ---- places

pub places_at : (t : Contents) (class : ClassId) (lists : List (List Place)) (list : List Place) → lists ≡ all_places t → class.0 < class_count t →
    list ≡ get_or lists class.0 list → list ≡ own_places t class ++ top_level t ∷ []
places_at t class lists list e low is =
    let many : length lists ≡ class_count t = ap (λ (ls : List (List Place)). length ls) e ∙ class_total (λ (c : ClassId). own_places t c ++ top_level t ∷ []) t in
    let at : slice_get lists class.0 ≡ Some (get_or lists class.0 list) = slice_get-get_or lists class.0 list (omega (arith, low, many)) in
    is ∙ same_Some _ _ (sym at ∙ ap (λ (ls : List (List Place)). slice_get ls class.0) e ∙ class_at (λ (c : ClassId). own_places t c ++ top_level t ∷ []) t class.0 low)

ancestors_past : (t : Contents) (class : ClassId) → class_count t ≤ class.0 → slice_get (all_ancestors t) class.0 ≡ None
unfolding all_ancestors
ancestors_past t class high = class_past (ancestors_in (hierarchy t)) t class.0 high

pub no_ancestors : (t : Contents) (class : ClassId) → class_count t ≤ class.0 → ancestors t class ≡ []
no_ancestors t class high = ap (λ (o : Option (List ClassId)). unwrap_or o []) (ancestors_past t class high)

pub no_places : (t : Contents) (class : ClassId) → class_count t ≤ class.0 → own_places t class ≡ []
no_places t class high = ap (map (λ (c : ClassId). place c.0)) (no_ancestors t class high)

-- ---- the choice

pub calm_kept : (t : Contents) (n : ℕ) (methods : List (List Method)) → n ≡ class_count t → methods ≡ all_methods t → IsLawful t → All (IsCalm (n + 1)) methods
calm_kept t n methods e f h =
    subst (λ (ms : List (List Method)). All (IsCalm (n + 1)) ms) (sym f) (subst (λ (k : ℕ). All (IsCalm (k + 1)) (all_methods t)) (sym e) h.calm)

pub least_kept : (t : Contents) (n : ℕ) (methods : List (List Method)) → n ≡ class_count t → methods ≡ all_methods t →
    (sought : Sought) (args : List ClassId) (places : List Place) (r : Option MethodId) → IsChoice (n + 1) methods places sought args r →
    IsChoice (class_count t + 1) (all_methods t) places sought args r
least_kept t n methods e f sought args places r is =
    subst (λ (k : ℕ). IsChoice (k + 1) (all_methods t) places sought args r) e (subst (λ (ms : List (List Method)). IsChoice (n + 1) ms places sought args r) f is)

pub chosen_kept : (t : Contents) (n : ℕ) (methods : List (List Method)) → n ≡ class_count t → methods ≡ all_methods t → IsLawful t →
    (sought : Sought) (args : List ClassId) (places : List Place) (r : Option MethodId) → IsChoice (n + 1) methods places sought args r →
    r ≡ first_chosen (compared t) (all_methods t) sought args places
chosen_kept t n methods e f h sought args places r is =
    choice_is (class_count t + 1) (all_methods t) sought args h.apart places r (least_kept t n methods e f sought args places r is)

-- ---- names and kinds

pub lt_true : (a b : ℕ) → a < b → nat_lt a b ≡ true
lt_true a b e = grind (arith, nat_tests)

pub lt_false : (a b : ℕ) → b ≤ a → nat_lt a b ≡ false
lt_false a b e = grind (arith, nat_tests)

by_past : {A : Type 0} (t : Contents) (of_built_in : BuiltIn → A) (of_own : NameId → A) (neither : A) (class : ClassId) → class_count t ≤ class.0 →
    by_number t of_built_in of_own neither class ≡ neither
by_past {A} t of_built_in of_own neither class past =
    ap (λ (b : Bool). if b then unwrap_or (option_map of_built_in (slice_get lines class.0)) neither else own) (lt_false class.0 built_in_count behind)
    ∙ ap (λ (o : Option NameId). unwrap_or (option_map of_own o) neither) (slice_get_past (own_names t) (class.0 - built_in_count) (omega (arith, past)))
  where
    own : A
    own = unwrap_or (option_map of_own (slice_get (own_names t) (class.0 - built_in_count))) neither

    behind : built_in_count ≤ class.0
    behind = omega (arith, past)

is_none_past : (t : Contents) (class : ClassId) → class_count t ≤ class.0 → is_class t class ≡ false
unfolding is_class
is_none_past t class past = by_past t (λ (line : BuiltIn). true) (is_own_class t) false class past

module _ (t : Contents) where
  name_total : length (all_named t) ≡ length t.names
  name_total = length-map-range_with_len (λ (n : ℕ). class_named t (record { 0 = n })) 0 (length t.names)

  name_at : (i : ℕ) → i < length t.names → slice_get (all_named t) i ≡ Some (class_named t (record { 0 = i }))
  name_at i low =
      slice_get-map (λ (n : ℕ). class_named t (record { 0 = n })) (range_with_len 0 (length t.names)) i
      ∙ ap (option_map (λ (n : ℕ). class_named t (record { 0 = n }))) (range_at (length t.names) 0 i low ∙ ap Some zeros)
    where
      zeros : 0 + i ≡ i
      zeros = omega arith

  pub named_within : (named : List (Option ClassId)) (i : ℕ) → named ≡ all_named t → i < length t.names → i < length named
  named_within named i e low = let many : length named ≡ length t.names = ap (λ (ns : List (Option ClassId)). length ns) e ∙ name_total in omega (arith, low, many)

  pub named_is : (named : List (Option ClassId)) (name : NameId) (r : Option ClassId) → named ≡ all_named t → name.0 < length t.names →
      r ≡ get_or named name.0 r → r ≡ class_named t name
  named_is named name r e low is =
      let at : slice_get named name.0 ≡ Some (get_or named name.0 r) = slice_get-get_or named name.0 r (named_within named name.0 e low) in
      is ∙ same_Some _ _ (sym at ∙ ap (λ (ns : List (Option ClassId)). slice_get ns name.0) e ∙ name_at name.0 low)

  pub kind_is : (kinds : List Bool) (class : ClassId) (kind : Bool) → kinds ≡ all_kinds t → slice_get kinds class.0 ≡ Some kind → kind ≡ is_class t class
  kind_is kinds class kind e at = elim (cases_lt class.0 (class_count t)) [
    | inl low ↦ same_Some kind (is_class t class) (sym at ∙ ap (λ (ks : List Bool). slice_get ks class.0) e ∙ class_at (is_class t) t class.0 low)
    | inr past ↦ let none : slice_get kinds class.0 ≡ None = ap (λ (ks : List Bool). slice_get ks class.0) e ∙ class_past (is_class t) t class.0 past in absurd cc
  ]

  pub no_kind : (kinds : List Bool) (class : ClassId) → kinds ≡ all_kinds t → slice_get kinds class.0 ≡ None → false ≡ is_class t class
  no_kind kinds class e none = elim (cases_lt class.0 (class_count t)) [
    | inl low ↦ let some : slice_get kinds class.0 ≡ Some (is_class t class) = ap (λ (ks : List Bool). slice_get ks class.0) e ∙ class_at (is_class t) t class.0 low in absurd cc
    | inr past ↦ sym (is_none_past t class past)
  ]

-- ---- atoms

pub named_row : (core now : Contents) → core ≡ now → IsCore core → (rows : List Row) → rows ≡ core.rows → (n : ℕ) (row : Row) → slice_get rows n ≡ Some row →
    All (HasName now) (names_of row.form)
named_row core now e is rows r n row at =
    subst (λ (t : Contents). All (HasName t) (names_of row.form)) e
    (is.rows n row (ap (λ (rs : List Row). slice_get rs n) (sym r) ∙ at)).names

pub form_is : (core now : Contents) → core ≡ now → (rows : List Row) → rows ≡ core.rows → (atom : NodeId) (o : Option Row) → slice_get rows atom.0 ≡ o →
    class_of_atom now atom ≡ named_class now (form_of o)
form_is core now e rows r atom o at =
    ap (λ (p : Option Row). named_class now (form_of p))
    (ap (λ (rs : List Row). slice_get rs atom.0) (ap (λ (t : Contents). t.rows) (sym e) ∙ sym r) ∙ at)

pub named_atom : (now : Contents) (form : Form) (name : NameId) → form ≡ f.Atom name → All (HasName now) (names_of form) → name.0 < length now.names
named_atom now form name e h = let named = subst (λ (g : Form). All (HasName now) (names_of g)) e h in named 0 name (omega arith)

-- ---- paths

pub path_of_line : {A : Type 0} (line : A → BuiltIn) (path_in : A → List ℕ) → ((x : A) → (line x).path ≡ path_in x) → (xs : List A) (i : ℕ) (r : List ℕ) →
    slice_get (map path_in xs) i ≡ Some r → unwrap_or (option_map (λ (l : BuiltIn). l.path) (slice_get (map line xs) i)) [] ≡ r
path_of_line line path_in same [] i r e = absurd cc
path_of_line line path_in same (x ∷ xs) zero r e = same x ∙ same_Some (path_in x) r e
path_of_line line path_in same (x ∷ xs) (suc i) r e = path_of_line line path_in same xs i r e

pub path_in_lines : (t : Contents) (class : ClassId) → class.0 < built_in_count → path t class ≡ unwrap_or (option_map (λ (l : BuiltIn). l.path) (slice_get lines class.0)) []
unfolding path
path_in_lines t class low =
    ap (λ (b : Bool). if b then unwrap_or (option_map (λ (l : BuiltIn). l.path) (slice_get lines class.0)) [] else own_path t (class.0 - built_in_count)) (lt_true class.0 built_in_count low)

pub path_behind : (t : Contents) (class : ClassId) → built_in_count ≤ class.0 → path t class ≡ own_path t (class.0 - built_in_count)
unfolding path
path_behind t class past =
    ap (λ (b : Bool). if b then unwrap_or (option_map (λ (l : BuiltIn). l.path) (slice_get lines class.0)) [] else own_path t (class.0 - built_in_count)) (lt_false class.0 built_in_count past)

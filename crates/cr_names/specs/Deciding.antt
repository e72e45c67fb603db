-- Decisions about a row, as tests.
use Rattle.std.specs.Prelude.{ℕ, Bool, false, not, ◌&&◌, ◌||◌, ◌==◌, List, length, Option, Some, None, if◌then◌else◌}
use Rattle.std.specs.Cmp.Lexicographic.{pointwise}
use Rattle.cr_base.specs.declared.ids.NameId.{NameId}
use Rattle.cr_core.specs.declared.form.Form.{Form}
use Rattle.cr_core.specs.declared.form.Form.TheVariants as f
use Rattle.cr_core.specs.declared.row.Row.{Row}
use Rattle.cr_core.specs.Tree.{Contents}
use Rattle.cr_names.specs.declared.kind.Kind.TheVariants as k
use Rattle.cr_names.specs.Names.{text_of, built_in, is_built_in, is_made, first, is_module, is_known, is_superclass, type_parameters, is_type_parameter}
use Rattle.cr_names.specs.Offences.{in_test, wanted, maker, is_up_to, is_class_by, has_class_parameter, superclass_at, is_word}

-- ---- unknown class

abbrev pub is_unknown_atom : Contents → ℕ → Row → NameId → Bool
is_unknown_atom t n row name = if is_type_parameter t n name then in_test t row else not (is_known t name)

abbrev pub is_unmade : Option ℕ → Bool
is_unmade None = false
is_unmade (Some place) = not (is_made place)

abbrev pub is_wrong_maker : Contents → ℕ → Option NameId → Bool
is_wrong_maker t n None = false
is_wrong_maker t n (Some name) = is_module t name || is_type_parameter t n name || is_unmade (built_in t name)

abbrev pub is_unknown_by : Contents → ℕ → Row → Form → Bool
is_unknown_by t n row (f.Atom name) = is_unknown_atom t n row name
is_unknown_by t n row (f.Class name (Some above)) = not (is_superclass t above)
is_unknown_by t n row (f.Include name) = not (is_module t name)
is_unknown_by t n row (f.New question block) = question || is_wrong_maker t n (maker t row)
is_unknown_by t n row form = false

abbrev pub is_unknown : Contents → ℕ → Row → Bool
is_unknown t n row = is_unknown_by t n row row.form

-- ---- defined twice

abbrev pub same_name : NameId → NameId → Bool
same_name a b = a.0 == b.0

abbrev pub same_names : List NameId → List NameId → Bool
same_names = pointwise same_name

abbrev pub other_parameters_in : List Row → ℕ → Option ℕ → Bool
other_parameters_in rows n None = false
other_parameters_in rows n (Some m) = not (same_names (type_parameters rows m) (type_parameters rows n))

abbrev pub other_parameters_by : Contents → ℕ → Option ℕ → Bool
other_parameters_by t n first = other_parameters_in t.rows n first

abbrev pub is_named : NameId → Option NameId → Bool
is_named name None = false
is_named name (Some other) = other.0 == name.0

abbrev pub other_superclass_by : Contents → NameId → Option ℕ → Bool
other_superclass_by t above None = false
other_superclass_by t above (Some m) = not (is_named above (superclass_at t m))

abbrev pub other_superclass_than : Contents → NameId → Option NameId → Bool
other_superclass_than t name None = false
other_superclass_than t name (Some above) = other_superclass_by t above (first k.Heir t name)

-- a name of the source is that of a class that is built in, or declared before
abbrev pub is_taken_in_source : Contents → ℕ → Row → NameId → Bool
is_taken_in_source t n row name = not row.place.prelude && (is_built_in t name || has_class_parameter t n)

abbrev pub is_other_kind : Contents → ℕ → NameId → Bool
is_other_kind t n name = is_up_to n (first k.Module t name) || is_up_to n (first k.Parameter t name)

abbrev pub is_twice_class : Contents → ℕ → Row → NameId → Option NameId → Bool
is_twice_class t n row name superclass =
    is_taken_in_source t n row name || is_other_kind t n name || other_superclass_than t name superclass || other_parameters_by t n (first k.Class t name)

abbrev pub is_twice_by : Contents → ℕ → Row → Form → Bool
is_twice_by t n row (f.Class name superclass) = is_twice_class t n row name superclass
is_twice_by t n row (f.Module name) = is_class_by t n name
is_twice_by t n row (f.Def name scope result written) = is_word (text_of t name)
is_twice_by t n row form = false

abbrev pub is_twice : Contents → ℕ → Row → Bool
is_twice t n row = is_twice_by t n row row.form

-- ---- wrong number of type arguments

abbrev pub is_bad_atom : Contents → ℕ → Row → NameId → Bool
is_bad_atom t n row name = not (in_test t row) && not (length row.parts == wanted t n name)

abbrev pub is_bad_arity_by : Contents → ℕ → Row → Form → Bool
is_bad_arity_by t n row (f.Atom name) = is_bad_atom t n row name
is_bad_arity_by t n row form = false

abbrev pub is_bad_arity : Contents → ℕ → Row → Bool
is_bad_arity t n row = is_bad_arity_by t n row row.form

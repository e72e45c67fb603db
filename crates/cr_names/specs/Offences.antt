-- The offences of a program's declarations and types that names alone decide: one line a rule.
use Rattle.std.specs.Prelude.{◌≡◌, ◌≢◌, ℕ, ◌≤◌, ◌⊎◌, Bool, true, false, ◌||◌, nat_le, codes, List, [], ◌∷◌, length, Option, Some, None, slice_get, if◌then◌else◌}
use Rattle.std.specs.List.{list_any}
use Rattle.std.specs.Str.{bytes_eq}
use Rattle.cr_base.specs.declared.ids.NameId.{NameId}
use Rattle.cr_base.specs.declared.ids.NodeId.{NodeId}
use Rattle.cr_core.specs.declared.form.Form.{Form}
use Rattle.cr_core.specs.declared.form.Form.TheVariants as f
use Rattle.cr_core.specs.declared.form.ScopeId.{ScopeId}
use Rattle.cr_core.specs.declared.row.Row.{Row}
use Rattle.cr_core.specs.Arena.{node_id}
use Rattle.cr_core.specs.Order.{stands_before}
use Rattle.cr_core.specs.Tree.{Contents, form_at}
use Rattle.cr_names.specs.declared.kind.Kind.TheVariants as k
use Rattle.cr_names.specs.declared.offence.What.{What}
use Rattle.cr_names.specs.declared.offence.What.TheVariants.{UnknownClass, Twice, CyclicParent, BadArity}
use Rattle.cr_names.specs.declared.offence.Offence.{Offence}
use Rattle.cr_ancestors.specs.Above.{IsAbove}
use Rattle.cr_names.specs.Above.{class_id, hierarchy}
use Rattle.cr_names.specs.Names.{text_of, built_in, is_built_in, is_made, declared_by, first, is_module, is_superclass, is_known, type_parameters, arity, is_type_parameter}

abbrev pub IsRow : Contents → ℕ → Row → Type 0
IsRow t n row = slice_get t.rows n ≡ Some row

-- ---- atoms

-- an atom with this name
pub record IsAtom (t : Contents) (n : ℕ) (row : Row) (name : NameId) : Type 0 where
  pub stands : IsRow t n row
  pub form : row.form ≡ f.Atom name

abbrev pub is_test : Option Form → Bool
is_test (Some f.IsA) = true
is_test around = false

-- whether an atom stands in `is_a?` or `in`
abbrev pub in_test : Contents → Row → Bool
in_test t row = is_test (form_at t.rows row.within.parent)

-- how many arguments an atom of this name has to have at row n: a type parameter none
abbrev pub wanted : Contents → ℕ → NameId → ℕ
wanted t n name = if is_type_parameter t n name then 0 else arity t name

abbrev pub atom_in : Option Form → Option NameId
atom_in (Some (f.Atom name)) = Some name
atom_in other = None

abbrev pub first_part : List NodeId → Option NodeId
first_part [] = None
first_part (part ∷ parts) = Some part

-- the name behind which a `new` stands
abbrev pub maker : Contents → Row → Option NameId
maker t row = atom_in (form_at t.rows (first_part row.parts))

-- a `new` behind this name
pub record IsNew (t : Contents) (n : ℕ) (name : NameId) : Type 0 where
  pub row : Row
  pub question : Bool
  pub block : Bool
  pub stands : IsRow t n row
  pub form : row.form ≡ f.New question block
  pub named : maker t row ≡ Some name

-- ---- declarations

-- a declaration of a class in row n
pub record IsClassRow (t : Contents) (n : ℕ) (name : NameId) : Type 0 where
  pub row : Row
  pub superclass : Option NameId
  pub stands : IsRow t n row
  pub form : row.form ≡ f.Class name superclass

abbrev pub is_up_to : ℕ → Option ℕ → Bool
is_up_to n None = false
is_up_to n (Some m) = nat_le m n

-- a class of this name is built in, or declared first in row n or before it
abbrev pub is_class_by : Contents → ℕ → NameId → Bool
is_class_by t n name = is_built_in t name || is_up_to n (first k.Class t name)

-- some type parameter of the class in row n has the name of such a class
abbrev pub has_class_parameter : Contents → ℕ → Bool
has_class_parameter t n = list_any (is_class_by t n) (type_parameters t.rows n)

abbrev pub superclass_in : Option Form → Option NameId
superclass_in (Some (f.Class name superclass)) = superclass
superclass_in other = None

abbrev pub superclass_at : Contents → ℕ → Option NameId
superclass_at t n = superclass_in (form_at t.rows (Some (node_id n)))

-- the words that no method may be named by
abbrev pub is_word : List ℕ → Bool
is_word text = bytes_eq text (codes "puts") || bytes_eq text (codes "raise")

-- ---- the rules

-- The node n commits this offence.
pub data IsOffence (t : Contents) (n : ℕ) : What → Type 0 where
  -- Unknown class: an atom names no class, no module and no type parameter of its class;
  unknown : (row : Row) (name : NameId) → IsAtom t n row name → is_known t name ≡ false → is_type_parameter t n name ≡ false → IsOffence t n UnknownClass
  -- `is_a?` or `in` names a type parameter;
  test_parameter : (row : Row) (name : NameId) → IsAtom t n row name → in_test t row ≡ true → is_type_parameter t n name ≡ true → IsOffence t n UnknownClass
  -- a superclass is no class that is declared, or has type parameters;
  of_superclass : (row : Row) (name above : NameId) → IsRow t n row → row.form ≡ f.Class name (Some above) → is_superclass t above ≡ false → IsOffence t n UnknownClass
  -- what is included is no module;
  of_include : (row : Row) (name : NameId) → IsRow t n row → row.form ≡ f.Include name → is_module t name ≡ false → IsOffence t n UnknownClass
  -- a `new` stands behind a question mark, a module, a type parameter, or a built-in class of which it makes no object.
  new_question : (row : Row) (block : Bool) → IsRow t n row → row.form ≡ f.New true block → IsOffence t n UnknownClass
  new_module : (name : NameId) → IsNew t n name → is_module t name ≡ true → IsOffence t n UnknownClass
  new_parameter : (name : NameId) → IsNew t n name → is_type_parameter t n name ≡ true → IsOffence t n UnknownClass
  new_built_in : (name : NameId) (place : ℕ) → IsNew t n name → built_in t name ≡ Some place → is_made place ≡ false → IsOffence t n UnknownClass
  -- Defined twice: a built-in class is reopened outside the prelude;
  reopened : (name : NameId) (class : IsClassRow t n name) → class.row.place.prelude ≡ false → is_built_in t name ≡ true → IsOffence t n Twice
  -- `puts` or `raise` is defined;
  of_word : (row : Row) (name : NameId) (scope : ScopeId) (result written : Bool) → IsRow t n row → row.form ≡ f.Def name scope result written →
      is_word (text_of t name) ≡ true → IsOffence t n Twice
  -- a class is reopened with other type parameters than it was declared with first,
  other_parameters : (name : NameId) (m : ℕ) → IsClassRow t n name → first k.Class t name ≡ Some m → type_parameters t.rows m ≢ type_parameters t.rows n → IsOffence t n Twice
  -- or with another superclass than was named first;
  other_superclass : (row : Row) (name above : NameId) (m : ℕ) → IsRow t n row → row.form ≡ f.Class name (Some above) → first k.Heir t name ≡ Some m →
      superclass_at t m ≢ Some above → IsOffence t n Twice
  -- a name is that of a class and of a module or a type parameter, where the second of them is declared.
  module_then_class : (name : NameId) → IsClassRow t n name → is_up_to n (first k.Module t name) ≡ true → IsOffence t n Twice
  class_then_module : (row : Row) (name : NameId) → IsRow t n row → row.form ≡ f.Module name → is_class_by t n name ≡ true → IsOffence t n Twice
  parameter_then_class : (name : NameId) → IsClassRow t n name → is_up_to n (first k.Parameter t name) ≡ true → IsOffence t n Twice
  class_then_parameter : (name : NameId) (class : IsClassRow t n name) → class.row.place.prelude ≡ false → has_class_parameter t n ≡ true → IsOffence t n Twice
  -- Cyclic parent: the first declaration of a class or module that is above itself.
  cyclic : (row : Row) (name : NameId) → IsRow t n row → declared_by row.form ≡ Some name → first k.Either t name ≡ Some n → IsAbove (hierarchy t) (class_id name.0) (class_id name.0) → IsOffence t n CyclicParent
  -- Wrong number of type arguments, but in `is_a?` and `in`.
  arguments : (row : Row) (name : NameId) → IsAtom t n row name → in_test t row ≡ false → length row.parts ≢ wanted t n name → IsOffence t n BadArity

-- ---- the least offence

abbrev pub code : What → ℕ
code UnknownClass = 1
code Twice = 2
code CyclicParent = 3
code BadArity = 4

-- An offence before which none stands: by the order of the text, and at one node by code.
pub record IsLeast (t : Contents) (o : Offence) : Type 0 where
  pub there : IsOffence t o.node.0 o.what
  pub least : (m : ℕ) (what : What) → IsOffence t m what → (stands_before t.rows o.node (node_id m) ≡ true) ⊎ ((m ≡ o.node.0) × (code o.what ≤ code what))

abbrev pub HasNone : Contents → Type 0
HasNone t = (n : ℕ) (what : What) → ¬ (IsOffence t n what)

-- the offence of least code of a node, or that it has none
abbrev pub IsFirstAt : Contents → ℕ → Option What → Type 0
IsFirstAt t n None = (what : What) → ¬ (IsOffence t n what)
IsFirstAt t n (Some what) = IsOffence t n what × ((other : What) → IsOffence t n other → code what ≤ code other)

-- the answer: the least offence, or that there is none
abbrev pub IsFirst : Contents → Option Offence → Type 0
IsFirst t None = HasNone t
IsFirst t (Some offence) = IsLeast t offence

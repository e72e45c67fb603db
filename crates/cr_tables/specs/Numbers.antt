-- Classes and modules by their numbers.
use Rattle.std.specs.Prelude.{ℕ, ◌-◌, nat_lt, Bool, true, false, if◌then◌else◌, List, [], map, Option, option_map, unwrap_or, slice_get}
use Rattle.std.specs.List.{range_with_len}
use Rattle.std.specs.Borrow.{Bor}
use Rattle.cr_base.specs.declared.ids.ClassId.{ClassId}
use Rattle.cr_base.specs.declared.ids.NameId.{NameId}
use Rattle.cr_core.specs.Tree.{Contents}
use Rattle.cr_prelude.specs.declared.class.BuiltinClass.{BuiltinClass}
use Rattle.cr_prelude.specs.declared.class.BuiltinClass.TheVariants as c
use Rattle.cr_names.specs.Names.{BuiltIn, lines, built_in_count, text_of, is_own_class, arity, own_names, class_of_name, class_count}

-- ---- the built-in classes

abbrev pub class_id : ℕ → ClassId
class_id n = record { 0 = n }

abbrev pub class_number : BuiltinClass → ℕ
class_number c.Object = 0
class_number c.Nil = 1
class_number c.Bool = 2
class_number c.Int32 = 3
class_number c.Int64 = 4
class_number c.String = 5
class_number c.Array = 6
class_number c.Hash = 7
class_number c.Channel = 8
class_number c.Concurrent = 9
class_number c.Parallel = 10
class_number c.Isolated = 11

abbrev pub class : BuiltinClass → ClassId
class built_in = class_id (class_number built_in)

-- ---- all of them

-- so many numbers
abbrev pub first_classes : ℕ → List ClassId
first_classes count = map class_id (range_with_len 0 count)

abbrev pub all_classes : Contents → List ClassId
all_classes t = first_classes (class_count t)

-- whether it is the number of a class or module
abbrev pub is_number : Contents → ClassId → Bool
is_number t class = nat_lt class.0 (class_count t)

-- the class or module that a name stands for
abbrev pub class_named : Contents → NameId → Option ClassId
class_named t name = option_map class_id (class_of_name t name)

-- ---- what is known of a number: by the line of a built-in class, or by the name of another class or module

abbrev pub by_number : {A : Type 0} → Contents → (BuiltIn → A) → (NameId → A) → A → ClassId → A
by_number t of_built_in of_own neither class =
    if nat_lt class.0 built_in_count
    then unwrap_or (option_map of_built_in (slice_get lines class.0)) neither
    else unwrap_or (option_map of_own (slice_get (own_names t) (class.0 - built_in_count))) neither

-- whether it is that of a class, and of no module
unfoldable pub is_class : Contents → ClassId → Bool
is_class t = by_number t (λ line. true) (is_own_class t) false

-- how many type parameters it has
unfoldable pub parameter_count : Contents → ClassId → ℕ
parameter_count t = by_number t (λ (line : BuiltIn). line.parameters) (arity t) 0

-- the name at a place among those of the classes and modules that are not built in
abbrev pub own_path : Contents → ℕ → List ℕ
own_path t place = unwrap_or (option_map (text_of t) (slice_get (own_names t) place)) []

-- its path
unfoldable pub path : Contents → ClassId → List ℕ
path t = by_number t (λ (line : BuiltIn). line.path) (text_of t) []

-- ---- what carries a proof inside

-- the path of a line, where there is one
abbrev pub path_in : Option BuiltIn → List ℕ
path_in line = unwrap_or (option_map (λ (l : BuiltIn). l.path) line) []

-- the path of a line as code reads it
abbrev pub path_of : Bor (List ℕ) × ℕ × Bool → List ℕ
path_of line = line.0.now

-- What stands above the classes and modules of a program, and the order of lookup.
use Rattle.std.specs.Prelude.{◌==◌, if◌then◌else◌, List, [], ◌∷◌, map, filter_map, Option, Some, None, unwrap_or, slice_get}
use Rattle.cr_base.specs.declared.ids.ClassId.{ClassId}
use Rattle.cr_core.specs.Tree.{Contents}
use Rattle.cr_declarations.specs.declared.declaration.Owner.{Owner}
use Rattle.cr_declarations.specs.declared.declaration.Owner.TheVariants.{TopLevel, Of}
use Rattle.cr_declarations.specs.declared.declaration.Declared.{Declared}
use Rattle.cr_declarations.specs.declared.declaration.Declared.TheVariants as d
use Rattle.cr_declarations.specs.declared.declaration.Declaration.{Declaration}
use Rattle.cr_declarations.specs.Declaring.{declarations}
use Rattle.cr_ancestors.specs.declared.parents.Parents.{Parents}
use Rattle.cr_ancestors.specs.Above.{ups}
use Rattle.cr_ancestors.specs.Reckoned.{ancestors_in}
use Rattle.cr_prelude.specs.declared.class.BuiltinClass.TheVariants as c
use Rattle.cr_tables.specs.declared.link.Link.{Link}
use Rattle.cr_tables.specs.Numbers.{class, class_named, is_class, all_classes}

-- ---- what declarations put above

-- the class or module that a declaration stands in
abbrev pub owner_class : Contents → Owner → Option ClassId
owner_class t TopLevel = None
owner_class t (Of name) = class_named t name

-- where it is a module, or a class
abbrev pub if_module : Contents → Option ClassId → Option ClassId
if_module t None = None
if_module t (Some class) = if is_class t class then None else Some class

abbrev pub if_class : Contents → Option ClassId → Option ClassId
if_class t None = None
if_class t (Some class) = if is_class t class then Some class else None

abbrev pub link : Option ClassId → Option ClassId → Option Link
link (Some below) (Some above) = Some (record { below = below; above = above })
link below above = None

-- that what a declaration stands in includes a module
abbrev pub inclusion_by : Contents → Declared → Option Link
inclusion_by t (d.Include owner name) = link (owner_class t owner) (if_module t (class_named t name))
inclusion_by t other = None

-- that a declaration of a class names a superclass
abbrev pub superclass_by : Contents → Declared → Option Link
superclass_by t (d.Class name (Some above)) = link (class_named t name) (if_class t (class_named t above))
superclass_by t other = None

abbrev pub links : (Declared → Option Link) → Contents → List Link
links by t = filter_map (λ (declaration : Declaration). by declaration.declared) (declarations t.rows)

abbrev pub inclusions : Contents → List Link
inclusions t = links (inclusion_by t) t

abbrev pub named_superclasses : Contents → List Link
named_superclasses t = links (superclass_by t) t

-- what stands above this class or module
abbrev pub above_by : ClassId → Link → Option ClassId
above_by class link = if link.below.0 == class.0 then Some link.above else None

abbrev pub above : List Link → ClassId → List ClassId
above links class = filter_map (above_by class) links

abbrev pub first_or : ClassId → List ClassId → ClassId
first_or class [] = class
first_or class (first ∷ others) = first

-- the first superclass that a declaration names, or else Object
abbrev pub superclass_of : Contents → ClassId → ClassId
superclass_of t below = first_or (class c.Object) (above (named_superclasses t) below)

-- Each class but Object has one; a module has none.
abbrev pub superclasses_of : Contents → ClassId → List ClassId
superclasses_of t below = if below.0 == (class c.Object).0 then [] else if is_class t below then superclass_of t below ∷ [] else []

-- the modules in the order of inclusion
abbrev pub parents_of : Contents → ClassId → Parents
parents_of t class = record { modules = above (inclusions t) class; superclasses = superclasses_of t class }

-- ---- all of them, by their numbers

-- what stands directly above each class and module, in the order of lookup
unfoldable pub hierarchy : Contents → List (List ClassId)
hierarchy t = map (λ (class : ClassId). ups (parents_of t class)) (all_classes t)

-- ---- the order of lookup

-- the ancestors of each class and module
unfoldable pub all_ancestors : Contents → List (List ClassId)
all_ancestors t = map (ancestors_in (hierarchy t)) (all_classes t)

-- none of a number that is no class's or module's
abbrev pub ancestors : Contents → ClassId → List ClassId
ancestors t class = unwrap_or (slice_get (all_ancestors t) class.0) []

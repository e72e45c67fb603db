-- How the tables of classes are made from one another.
use Rattle.std.specs.Prelude.{ℕ, ◌==◌, Bool, false, if◌then◌else◌, List, [], ◌∷◌, ◌++◌, length, map, unwrap_or, slice_get}
use Rattle.cr_base.specs.declared.ids.ClassId.{ClassId}
use Rattle.cr_ancestors.specs.declared.parents.Parents.{Parents}
use Rattle.cr_lookup.specs.declared.method.Place.{Place}
use Rattle.cr_prelude.specs.declared.class.BuiltinClass.TheVariants as c
use Rattle.cr_tables.specs.declared.link.Link.{Link}
use Rattle.cr_tables.specs.Numbers.{class, first_classes}
use Rattle.cr_tables.specs.Hierarchy.{above, first_or}
use Rattle.cr_tables.specs.Methods.{place}

abbrev pub is_kind : List Bool → ClassId → Bool
is_kind kinds class = unwrap_or (slice_get kinds class.0) false

-- the superclass of a class, where these say which are classes, and which superclasses are named
abbrev pub superclasses_by : List Bool → List Link → ClassId → List ClassId
superclasses_by kinds links below =
    if below.0 == (class c.Object).0 then [] else if is_kind kinds below then first_or (class c.Object) (above links below) ∷ [] else []

abbrev pub parents_by : List Bool → List Link → List Link → ClassId → Parents
parents_by kinds inclusions superclasses class = record { modules = above inclusions class; superclasses = superclasses_by kinds superclasses class }

abbrev pub all_parents : List Bool → List Link → List Link → List Parents
all_parents kinds inclusions superclasses = map (parents_by kinds inclusions superclasses) (first_classes (length kinds))

-- the places of a class or module with these ancestors, and that of the top level, which has this number
abbrev pub places_by : ℕ → List ClassId → List Place
places_by top line = map (λ (ancestor : ClassId). place ancestor.0) line ++ place top ∷ []

-- What the calls come to is what the world answers.
use Rattle.std.proofs.Common.{◌≡◌, Bool, true, false, List, ◌∷◌, Option, Some, None, ◌+◌, sym, ap, ◌∙◌, subst}
use Rattle.std.specs.Prelude.{if◌then◌else◌, option_map}
use Rattle.std.specs.List.{list_all}
use Rattle.cr_base.specs.declared.ids.ClassId.{ClassId}
use Rattle.cr_base.specs.declared.ids.MethodId.{MethodId}
use Rattle.cr_base.specs.declared.ids.NameId.{NameId}
use Rattle.cr_core.specs.Tree.{Contents}
use Rattle.cr_lookup.specs.declared.method.Method.{Method}
use Rattle.cr_lookup.specs.declared.method.Place.{Place}
use Rattle.cr_lookup.specs.declared.method.Sought.{Sought}
use Rattle.cr_lookup.specs.Choice.{IsChoice}
use Rattle.cr_lookup.specs.Places.{first_with}
use Rattle.cr_names.specs.Names.{class_count}
use Rattle.cr_tables.specs.declared.def.Def.{Def}
use Rattle.cr_tables.specs.declared.onwards.Onwards.{Onwards}
use Rattle.cr_tables.specs.declared.onwards.Onwards.TheVariants.{Nowhere}
use Rattle.cr_tables.specs.Numbers.{is_number}
use Rattle.cr_tables.specs.Methods.{all_methods, name_with, initialize}
use Rattle.cr_tables.specs.Choosing.{sought, first_chosen, compared, places_of_call, places_of_super, own_places, onwards, super_from, initialize_by, def_at, chosen, chosen_super, chosen_initialize}
use Rattle.cr_tables.specs.World.{world_of, target, further}

-- ---- calls

abbrev pub picked : Contents → Sought → List ClassId → List Place → Bool → Option MethodId
picked t s args places b = if b then first_chosen (compared t) (all_methods t) s args places else None

module _ (t : Contents) (class : ClassId) (name : NameId) (args : List ClassId) (block top : Bool) where
  pub choose_none : list_all (is_number t) (class ∷ args) ≡ false → None ≡ chosen t class name args block top
  unfolding chosen
  choose_none e = sym (ap (picked t (sought class name block) args (places_of_call t class name top)) e)

  pub choose_some : (places : List Place) (r : Option MethodId) → list_all (is_number t) (class ∷ args) ≡ true → places ≡ places_of_call t class name top →
      r ≡ first_chosen (compared t) (all_methods t) (sought class name block) args places → r ≡ chosen t class name args block top
  unfolding chosen
  choose_some places r e p is =
      is ∙ ap (first_chosen (compared t) (all_methods t) (sought class name block) args) p
      ∙ sym (ap (picked t (sought class name block) args (places_of_call t class name top)) e)

  pub least_some : (places : List Place) (r : Option MethodId) → places ≡ places_of_call t class name top →
      IsChoice (class_count t + 1) (all_methods t) places (sought class name block) args r →
      IsChoice (class_count t + 1) (all_methods t) (places_of_call t class name top) (sought class name block) args r
  least_some places r p is = subst (λ (ps : List Place). IsChoice (class_count t + 1) (all_methods t) ps (sought class name block) args r) p is

  pub world_choose : (r : Option MethodId) → r ≡ chosen t class name args block top → option_map target r ≡ (world_of t).choose class name args block top
  unfolding world_of
  world_choose r e = ap (option_map target) e

-- ---- `super`

module _ (t : Contents) (class : ClassId) (running : MethodId) (args : List ClassId) where
  pub super_none : def_at t running ≡ None → Nowhere ≡ chosen_super t class running args
  unfolding chosen_super
  super_none e = sym (ap (super_from t class args) e)

  pub super_some : (def : Def) (places : List Place) (r : Onwards) → def_at t running ≡ Some def → places ≡ places_of_super t class def →
      r ≡ onwards t class def.name args places → r ≡ chosen_super t class running args
  unfolding chosen_super
  super_some def places r e p is = is ∙ ap (onwards t class def.name args) p ∙ sym (ap (super_from t class args) e)

  pub world_super : (r : Onwards) → r ≡ chosen_super t class running args → further r ≡ (world_of t).choose_super class running args
  unfolding world_of
  world_super r e = ap further e

-- ---- `initialize`

module _ (t : Contents) (class : ClassId) (args : List ClassId) where
  pub new_none : name_with t initialize ≡ None → Nowhere ≡ chosen_initialize t class args
  unfolding chosen_initialize
  new_none e = sym (ap (initialize_by t class args) e)

  pub new_some : (name : NameId) (methods : List (List Method)) (own places : List Place) (r : Onwards) → name_with t initialize ≡ Some name →
      methods ≡ all_methods t → own ≡ own_places t class → places ≡ first_with methods name own → r ≡ onwards t class name args places →
      r ≡ chosen_initialize t class args
  unfolding chosen_initialize
  new_some name methods own places r e f o p is =
      is ∙ ap (onwards t class name args) (p ∙ ap (λ (ms : List (List Method)). first_with ms name own) f ∙ ap (first_with (all_methods t) name) o)
      ∙ sym (ap (initialize_by t class args) e)

  pub world_new : (r : Onwards) → r ≡ chosen_initialize t class args → further r ≡ (world_of t).choose_initialize class args
  unfolding world_of
  world_new r e = ap further e

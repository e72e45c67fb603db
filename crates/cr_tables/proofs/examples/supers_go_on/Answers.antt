use Rattle.std.proofs.Common.{refl}
use Rattle.cr_names.specs.Names.{lines, built_in_count, place_of_path, parameters_of_built_in, first, own_names, own_place}
use Rattle.cr_builtins.specs.Operations.{line_of_operation}
use Rattle.cr_tables.specs.Numbers.{is_class, parameter_count}
use Rattle.cr_tables.specs.Hierarchy.{hierarchy, all_ancestors}
use Rattle.cr_tables.specs.BuiltIns.{operands}
use Rattle.cr_tables.specs.Methods.{defs, built_in_methods, all_methods}
use Rattle.cr_tables.specs.Choosing.{chosen_super, chosen_initialize}
use Rattle.cr_tables.proofs.examples.supers_go_on.Goals as goal

pub returns : goal.returns
unfolding lines built_in_count place_of_path parameters_of_built_in first own_names own_place line_of_operation is_class parameter_count hierarchy all_ancestors operands defs built_in_methods all_methods chosen_super chosen_initialize
returns c = record {
  out_of_module = refl;
  out_of_first = refl;
  none_matches = refl;
  nowhere = refl;
  out_of_top_level = refl;
  inherited = refl;
  no_initialize = refl;
  other_arguments = refl;
}

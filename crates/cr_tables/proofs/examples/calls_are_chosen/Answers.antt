use Rattle.std.proofs.Common.{refl}
use Rattle.cr_names.specs.Names.{lines, built_in_count, place_of_path, parameters_of_built_in, first, own_names, own_place}
use Rattle.cr_builtins.specs.Operations.{line_of_operation}
use Rattle.cr_tables.specs.Numbers.{is_class, parameter_count}
use Rattle.cr_tables.specs.Hierarchy.{hierarchy, all_ancestors}
use Rattle.cr_tables.specs.BuiltIns.{operands}
use Rattle.cr_tables.specs.Methods.{defs, built_in_methods, all_methods}
use Rattle.cr_tables.specs.Choosing.{chosen}
use Rattle.cr_tables.proofs.examples.calls_are_chosen.Goals as goal

pub returns : goal.returns
unfolding lines built_in_count place_of_path parameters_of_built_in first own_names own_place line_of_operation is_class parameter_count hierarchy all_ancestors operands defs built_in_methods all_methods chosen
returns c = record {
  lookup_order = refl;
  most_special = refl;
  other = refl;
  module_first = refl;
  superclass_next = refl;
  own = refl;
  no_block = refl;
  type_parameter = refl;
  of_top_level = refl;
  through_top_level = refl;
  with_receiver = refl;
  sum = refl;
  other_operand = refl;
  other_integer = refl;
  identity = refl;
  no_identity = refl;
}

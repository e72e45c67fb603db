use Rattle.std.proofs.Common.{◌∙◌}
use Rattle.cr_names.specs.Names.{line_at, is_path}
use Rattle.cr_names.proofs.Places.{position_map}
use Rattle.cr_names.proofs.built_in.place_in.Goals as goal

pub returns : goal.returns
returns c = c.line_with.ensures ∙ position_map line_at (is_path c.args.path.now) c.args.table.now

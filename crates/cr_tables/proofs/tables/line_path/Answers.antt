use Rattle.std.proofs.Common.{refl}
use Rattle.cr_names.specs.Names.{line_at}
use Rattle.cr_tables.specs.Numbers.{path_of}
use Rattle.cr_tables.proofs.Kept.{path_of_line}
use Rattle.cr_tables.proofs.tables.line_path.Goals as goal

pub returns : goal.returns
returns c = path_of_line line_at path_of (λ x. refl) c.args.table.now c.args.at c.path_at.result.now c.path_at.ensures

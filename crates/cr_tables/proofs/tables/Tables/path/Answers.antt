use Rattle.std.proofs.Common.{◌∙◌, sym}
use Rattle.cr_names.specs.Names.{lines, built_in_count}
use Rattle.cr_tables.proofs.Kept.{path_in_lines, path_behind}
use Rattle.cr_tables.proofs.tables.Tables.path.Goals as goal

pub returns-then-number-lt12 : goal.returns-then-number-lt12
unfolding lines built_in_count
returns-then-number-lt12 c = sym (path_in_lines c.args.self.now c.args.class c.if-number-lt12.true ∙ c.line_path.ensures)

pub returns : goal.returns
unfolding lines built_in_count
returns c = c.own_path.ensures ∙ sym (path_behind c.args.self.now c.args.class c.if-number-lt12.false)

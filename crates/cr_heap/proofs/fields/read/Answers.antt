use Rattle.std.proofs.Common.{sym, ◌∙◌}
use Rattle.cr_heap.proofs.Named.{read_found, field_missing}
use Rattle.cr_heap.proofs.fields.read.Goals as goal

pub returns-in-Some : goal.returns-in-Some
returns-in-Some c =
    read_found c.args.name c.args.fields.now c.in-Some.at c.index-fields-at.result c.copy.result (sym c.place.ensures ∙ c.in-Some.is) c.copy.ensures

pub returns-in-None : goal.returns-in-None
returns-in-None c = field_missing c.args.name c.args.fields.now (sym c.place.ensures ∙ c.in-None.is)

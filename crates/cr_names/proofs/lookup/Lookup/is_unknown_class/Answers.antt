use Rattle.cr_names.specs.declared.offence.What.TheVariants.{UnknownClass}
use Rattle.cr_names.specs.Deciding.{is_unknown}
use Rattle.cr_names.proofs.Decided.{answers, unknown_decided}
use Rattle.cr_names.proofs.lookup.Lookup.is_unknown_class.Goals as goal

pub returns : goal.returns
returns c =
    let t = c.args.self.now.core.now in
    let n = c.args.node.0 in
    let row = c.row.result.now in
    answers t n UnknownClass (is_unknown t n row) c.is_unknown.result (unknown_decided t n row c.row.ensures) c.is_unknown.ensures

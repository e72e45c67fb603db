use Rattle.cr_names.specs.declared.offence.What.TheVariants.{BadArity}
use Rattle.cr_names.specs.Deciding.{is_bad_arity}
use Rattle.cr_names.proofs.Decided.{answers, bad_arity_decided}
use Rattle.cr_names.proofs.lookup.Lookup.is_bad_arity.Goals as goal

pub returns : goal.returns
returns c =
    let t = c.args.self.now.core.now in
    let n = c.args.node.0 in
    let row = c.row.result.now in
    answers t n BadArity (is_bad_arity t n row) c.is_bad_arity.result (bad_arity_decided t n row c.row.ensures) c.is_bad_arity.ensures

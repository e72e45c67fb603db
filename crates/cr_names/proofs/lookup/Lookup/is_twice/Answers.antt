use Rattle.std.proofs.lemmas.Result.{IfOk-weaker}
use Rattle.cr_names.specs.declared.offence.What.TheVariants.{Twice}
use Rattle.cr_names.specs.Deciding.{is_twice}
use Rattle.cr_names.proofs.Decided.{answers, twice_decided}
use Rattle.cr_names.proofs.lookup.Lookup.is_twice.Goals as goal

pub returns : goal.returns
returns c =
    let t = c.args.self.now.core.now in
    let n = c.args.node.0 in
    let row = c.row.result.now in
    IfOk-weaker c.is_twice.result _ _ (λ passed same. answers t n Twice (is_twice t n row) passed (twice_decided t n row c.row.ensures) same) c.is_twice.ensures

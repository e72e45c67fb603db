use Rattle.std.proofs.lemmas.Result.{IfOk-weaker}
use Rattle.cr_names.proofs.Turning.{cyclic_decided}
use Rattle.cr_names.proofs.lookup.Lookup.is_cyclic_parent.Goals as goal

pub returns : goal.returns
returns c =
    IfOk-weaker c.is_cyclic.result _ _ (λ passed says. cyclic_decided c.args.self.now.core.now c.args.node.0 c.row.result.now passed c.row.ensures says) c.is_cyclic.ensures

use Rattle.std.proofs.Common.{sym}
use Rattle.std.proofs.lemmas.Result.{IfOk-weaker}
use Rattle.cr_fibers.proofs.Kept.{first_is}
use Rattle.cr_fibers.proofs.places.first_behind.Goals as goal

pub returns-in-Some : goal.returns-in-Some
returns-in-Some c =
    IfOk-weaker c.in_block.result _ _ (λ made e variables. first_is c.args.outer.now c.args.slots.items c.in-Some.around.now made variables (sym c.in-Some.ensures.value) e) c.in_block.ensures

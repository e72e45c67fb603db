use Rattle.std.proofs.Common.{arith, sym}
use Rattle.cr_flow.specs.Chain.{LeadsTo, stays, down}
use Rattle.cr_flow.proofs.Reaching.{first_behind}
use Rattle.cr_flow.proofs.chain.foremost.Goals as goal

pub down-init : goal.down-init
down-init c = stays

pub down-preserved : goal.down-preserved
down-preserved c = down _ _ c.down.invariant (sym c.in-Some.ensures)

pub down-smaller : goal.down-smaller
down-smaller c = let b = first_behind c.args.rows.now c.requires c.down.at c.in-Some.part (sym c.in-Some.ensures) in let u = b.later in let v = b.there in omega (arith, u, v)

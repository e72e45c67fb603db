use Rattle.cr_flow.specs.Steps.{IsStep}
use Rattle.cr_flow.proofs.Stepping.{all_more}
use Rattle.cr_flow.proofs.steps.steps.Goals as goal

pub statements-preserved : goal.statements-preserved
statements-preserved c =
    let next = c.in-Some.ensures.step c.args.body c.statements.invariant.last in
    record {
      all = all_more (IsStep c.args.rows.now c.args.ranks.now c.args.z c.args.body) c.push-in-Some.new.self.items c.statements.steps.items c.in-Some.next c.in_ok-push-2.ensures.items c.statements.invariant.all next;
      last = next;
    }

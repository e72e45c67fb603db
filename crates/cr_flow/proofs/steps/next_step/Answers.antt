use Rattle.std.proofs.Common.{◌≡◌, None, sym, ap, ◌∙◌, subst, arith}
use Rattle.cr_flow.specs.declared.variable.Variable.TheVariants.{Field}
use Rattle.cr_flow.specs.declared.steps.Step.{Step}
use Rattle.cr_flow.specs.Uses.{asked}
use Rattle.cr_flow.specs.Steps.{IsStep}
use Rattle.cr_flow.proofs.Reaching.{trail_later}
use Rattle.cr_flow.proofs.Stepping.{advances, plain_none}
use Rattle.cr_flow.proofs.steps.next_step.Goals as goal

pub returns-clause-step : goal.returns-clause-step
returns-clause-step c = λ body h.
    let w = c.in-Some.trail in
    let plain = plain_none w.branch (sym c.is_plain.ensures ∙ c.if-not-is_plain.false) in
    subst (IsStep c.args.rows.now c.args.ranks.now c.args.z body) (sym c.advanced.ensures)
    (advances c.args.rows.now c.args.ranks.now c.args.end c.args.pasts.now c.requires.forward c.requires.pasts c.args.z body c.args.step w c.reach-first.result
    (sym c.in-Some.ensures) plain c.reach-first.ensures (sym c.goes_on.ensures ∙ c.if-not-goes_on.false) h)

pub returns-clause-later : goal.returns-clause-later
returns-clause-later c =
    let w = c.in-Some.trail in
    let b = trail_later c.args.rows.now (asked c.args.rows.now None c.args.ranks.now (Field c.args.z)) (Field c.args.z) c.requires.forward c.args.step.at w (sym c.in-Some.ensures) in
    let at : c.advanced.result.at.0 ≡ w.rest.0 = ap (λ (s : Step). s.at.0) c.advanced.ensures in
    let u = b.1.later in let v = b.1.there in
    (omega (arith, u, at), omega (arith, v, at))

use Rattle.std.proofs.Common.{◌≡◌, get_or, sym, ap, ◌∙◌, arith}
use Rattle.std.proofs.lemmas.List.Elements.{All-contains}
use Rattle.cr_flow.specs.Outs.{finished}
use Rattle.cr_flow.specs.Steps.{IsStep}
use Rattle.cr_flow.proofs.Below.{clear_at, clear_less}
use Rattle.cr_flow.proofs.steps.reach_from.Goals as goal

pub returns : goal.returns
returns c =
    let rows = c.args.rows.now in let low = c.args.body.0 in let firsts = c.args.firsts.now in let s = c.in-Some.step in
    let found = c.in-Some.ensures in let le = found.1 in
    let k = c.args.name in let z = c.args.z in
    let m = c.min.ensures in let one = c.first_naming-named.ensures in let two = c.first_naming-other.ensures in
    let step = All-contains (IsStep rows c.args.ranks.now z c.args.body) c.args.steps.now s c.requires.steps found.0 in
    let a = clear_less rows k low s.past (get_or firsts k.0 0) (omega (arith, le, m, one, two)) (clear_at rows low firsts k c.requires.firsts) in
    let b = clear_less rows z low s.past (get_or firsts z.0 0) (omega (arith, le, m, one, two)) (clear_at rows low firsts z c.requires.firsts) in
    c.finished.ensures ∙ ap (finished s.inside s.all) c.reach-end.ensures ∙ sym (step.same k a b)

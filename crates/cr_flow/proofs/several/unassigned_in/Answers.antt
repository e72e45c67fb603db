use Rattle.std.proofs.Common.{◌≡◌, List, length, sym, ap, ◌∙◌, subst, arith}
use Rattle.std.specs.Prelude.{slice_get}
use Rattle.std.proofs.lemmas.Option.{slice_get-get_or}
use Rattle.std.proofs.lemmas.List.{length_push}
use Rattle.cr_core.specs.declared.row.Row.{Row}
use Rattle.cr_flow.specs.Chain.{IsForward}
use Rattle.cr_flow.specs.Several.{AreTold}
use Rattle.cr_flow.proofs.Parts.{forward}
use Rattle.cr_flow.proofs.Told.{told_more}
use Rattle.cr_flow.proofs.several.unassigned_in.Goals as goal

pub pasts-requires-clause-forward : goal.pasts-requires-clause-forward
pasts-requires-clause-forward c = subst (λ (rows : List Row). IsForward rows) (sym c.rows-rows.ensures.rows) (forward c.args.tree.now.rows c.rows-rows.ensures.core.arena)

pub steps-requires-clause-forward : goal.steps-requires-clause-forward
steps-requires-clause-forward c = subst (λ (rows : List Row). IsForward rows) (sym c.rows-rows.ensures.rows) (forward c.args.tree.now.rows c.rows-rows.ensures.core.arena)

pub loop-variable-preserved : goal.loop-variable-preserved
loop-variable-preserved c =
    let xs = c.args.variables.now in let us = c.loop-variable.found.items in let m = c.loop-variable.invariant.many in
    let items = c.in_ok-push.ensures.items in
    record {
      many = let l = length_push us c.unassigned-one.result in let e = ap length items in omega (arith, l, e, m);
      told = subst (AreTold c.args.tree.now c.args.scope c.args.ranks.now xs) (sym items)
          (told_more c.args.tree.now c.args.scope c.args.ranks.now xs us _ c.unassigned-one.result c.loop-variable.invariant.told
          (ap (slice_get xs) m ∙ slice_get-get_or xs c.loop-variable.variable-index _ c.loop-variable-test.true) c.unassigned-one.ensures);
    }

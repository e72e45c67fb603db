use Rattle.std.proofs.Common.{List, sym, ◌∙◌, subst, arith}
use Rattle.std.proofs.lemmas.List.{at_drop_all}
use Rattle.cr_core.specs.declared.row.Row.{Row}
use Rattle.cr_core.specs.declared.scope.Scope.{Scope}
use Rattle.cr_core.specs.Scopes.{AreSettled}
use Rattle.cr_core.specs.Settle.{settled_from}
use Rattle.cr_core.proofs.Settled.{settled}
use Rattle.cr_core.proofs.settle.settle_scopes.Goals as goal

pub returns : goal.returns
returns c =
    let rows = c.args.rows.now in
    let done = at_drop_all (λ (more : List Row). settled_from rows c.loop-at.at more c.loop-at.scopes) rows c.loop-at.at (omega arith) in
    subst (λ (new : List Scope). AreSettled rows c.args.scopes.now new) (sym (sym done ∙ c.loop-at.invariant)) (settled rows c.args.scopes.now c.requires.once)

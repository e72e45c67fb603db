use Rattle.std.proofs.Common.{◌≡◌, ℕ, List, sym, ap, ◌∙◌, subst}
use Rattle.std.proofs.lemmas.Result.{IfOk-weaker}
use Rattle.cr_flow.specs.Captured.{AreCaptured, flagged}
use Rattle.cr_flow.proofs.Flags.{captured_are}
use Rattle.cr_flow.proofs.capture.captured.Goals as goal

pub returns : goal.returns
returns c =
    IfOk-weaker c.flagged.result _ _
    (λ found is. subst (λ (slots : List ℕ). AreCaptured c.args.tree.now c.args.scope slots) (sym (is ∙ ap (flagged 0) c.as_slice.ensures)) (captured_are c.args.tree.now c.rows.ensures.core c.args.scope c.scope.result.now c.scope.ensures))
    c.flagged.ensures

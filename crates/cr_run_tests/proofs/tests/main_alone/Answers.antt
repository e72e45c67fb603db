use Rattle.std.proofs.Common.{List, [], ◌∷◌, ◌++◌, sym, ap, subst, ◌∙◌}
use Rattle.std.specs.Prelude.{All}
use Rattle.std.proofs.lemmas.List.Elements.{All-nil, All-cons}
use Rattle.cr_stack.specs.Neat.{IsNeat}
use Rattle.cr_fibers.specs.Held.{Held}
use Rattle.cr_machine.proofs.Bodies.{body_is_term}
use Rattle.cr_run_tests.proofs.tests.main_alone.Goals as goal

pub returns : goal.returns
returns c =
    subst (All (λ (f : Held). IsNeat c.args.tree.now.rows f.layers))
    (sym (c.in_ok-push.ensures.items ∙ ap (λ (fibers : List Held). fibers ++ c.in_ok-main.main ∷ []) c.new-fibers.ensures.items))
    (All-cons (λ (f : Held). IsNeat c.args.tree.now.rows f.layers) c.in_ok-main.main []
    (c.in_ok-main.ensures.neat c.args.tree.now.rows (body_is_term c.args.tree.now c.rows-rows.ensures.core 0 c.scope.result.now c.scope.ensures))
    (All-nil (λ (f : Held). IsNeat c.args.tree.now.rows f.layers)))

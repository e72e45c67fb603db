use Rattle.std.proofs.Common.{List, [], ◌∷◌, ◌++◌, sym, ap, subst, ◌∙◌}
use Rattle.std.specs.Prelude.{All}
use Rattle.std.proofs.lemmas.List.Elements.{All-nil, All-cons}
use Rattle.cr_stack.specs.Neat.{IsNeat}
use Rattle.cr_fibers.specs.Held.{Held}
use Rattle.cr_machine.specs.declared.contexts.Context.{Context}
use Rattle.cr_machine.specs.declared.contexts.ContextKind.TheVariants.{Concurrent}
use Rattle.cr_machine.proofs.Beginning.{first_scope, starts, filled_is}
use Rattle.cr_machine.proofs.Bodies.{body_is_term}
use Rattle.cr_machine.proofs.state.start.Goals as goal

pub scope-requires : goal.scope-requires
scope-requires c = first_scope c.args.tree.now c.rows-rows.ensures.core

pub returns-clause-state : goal.returns-clause-state
returns-clause-state c = λ P same.
    filled_is P c.in_ok-main.main c.push.new.self.items c.new.result c.push-2.new.self.items c.new-2.result.items c.new-3.result.items
    (c.in_ok-push.ensures.items ∙ ap (λ (fibers : List Held). fibers ++ c.in_ok-main.main ∷ []) c.new-fibers.ensures.items)
    c.new.ensures
    (c.in_ok-push-2.ensures.items ∙ ap (λ (contexts : List Context). contexts ++ record { kind = Concurrent; size = 1 } ∷ []) c.new-contexts.ensures.items)
    c.new-2.ensures.items c.new-3.ensures.items
    ∙ starts P c.args.tree.now c.scope.result.now c.in_ok-main.main same c.scope.ensures (c.in_ok-main.ensures.fiber P (same.rows ∙ sym c.rows-rows.ensures.rows))

pub returns-clause-neat : goal.returns-clause-neat
returns-clause-neat c =
    subst (All (λ (f : Held). IsNeat c.args.tree.now.rows f.layers))
    (sym (c.in_ok-push.ensures.items ∙ ap (λ (fibers : List Held). fibers ++ c.in_ok-main.main ∷ []) c.new-fibers.ensures.items))
    (All-cons (λ (f : Held). IsNeat c.args.tree.now.rows f.layers) c.in_ok-main.main []
    (c.in_ok-main.ensures.neat c.args.tree.now.rows (body_is_term c.args.tree.now c.rows-rows.ensures.core 0 c.scope.result.now c.scope.ensures))
    (All-nil (λ (f : Held). IsNeat c.args.tree.now.rows f.layers)))

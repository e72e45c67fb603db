use Rattle.std.proofs.Common.{[], ◌∷◌, ◌++◌, sym, subst}
use Rattle.cr_core.specs.declared.form.ScopeId.{ScopeId}
use Rattle.cr_declarations.specs.Marking.{AreOutermost}
use Rattle.cr_declarations.proofs.Marked.{next_none, next_some}
use Rattle.cr_declarations.proofs.blocks.outermost_scope.Goals as goal

pub returns-in-None : goal.returns-in-None
returns-in-None c = next_none c.args.core.now c.args.list.now c.args.scope c.scope.result.now c.requires.next c.requires.before c.scope.ensures c.in-None.is

pub returns-in-Some : goal.returns-in-Some
returns-in-Some c =
    subst (λ (m : ScopeId). AreOutermost c.args.core.now.scopes (c.args.list.now ++ m ∷ [])) (sym c.outermost_of.ensures)
    (next_some c.args.core.now c.args.list.now c.args.scope c.scope.result.now c.in-Some.home c.requires.core c.requires.next c.requires.before c.scope.ensures c.in-Some.is)

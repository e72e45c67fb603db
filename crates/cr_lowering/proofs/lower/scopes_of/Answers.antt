use Rattle.std.proofs.Common.{◌≡◌, List, length, map, sym, ap, ◌∙◌, subst}
use Rattle.std.proofs.lemmas.List.{with_items_is}
use Rattle.cr_core.specs.declared.row.Row.{Row}
use Rattle.cr_core.specs.declared.scope.Scope.{Scope}
use Rattle.cr_lowering.specs.Blank.{blank}
use Rattle.cr_lowering.specs.Made.{AreTold}
use Rattle.cr_lowering.proofs.Marked.{told_many}
use Rattle.cr_lowering.proofs.lower.scopes_of.Goals as goal

pub returns : goal.returns
returns c =
    let rows : c.as_slice-2.result.now ≡ c.args.rewritten.now.rows.items = c.as_slice-2.ensures.value in
    let old : c.as_mut_slice.result.now ≡ map blank c.args.rewritten.now.scopes.items = c.as_mut_slice.ensures.value ∙ c.in_ok-scopes.ensures ∙ ap (map blank) c.as_slice.ensures.value in
    let told = subst (λ (rs : List Row). AreTold rs (map blank c.args.rewritten.now.scopes.items) c.tell.new.scopes) rows (subst (λ (ss : List Scope). AreTold c.as_slice-2.result.now ss c.tell.new.scopes) old c.tell.ensures) in
    let many : length c.tell.new.scopes ≡ c.in_ok-scopes.scopes.len = told_many c.as_slice-2.result.now c.as_mut_slice.result.now c.tell.new.scopes c.tell.ensures ∙ c.as_mut_slice.ensures.len in
    subst (λ (ss : List Scope). AreTold c.args.rewritten.now.rows.items (map blank c.args.rewritten.now.scopes.items) ss) (sym (with_items_is c.in_ok-scopes.scopes c.tell.new.scopes many)) told

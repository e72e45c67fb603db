use Rattle.std.proofs.Common.{ap, ◌∙◌, ◌++◌, List}
use Rattle.cr_grammar.specs.declared.tree.Tree.{Tree}
use Rattle.cr_making.specs.declared.view.View.TheVariants as v
use Rattle.cr_making.specs.Declaring.{body}
use Rattle.cr_making.specs.Making.{sequence}
use Rattle.cr_making.specs.View.{said_lines}
use Rattle.cr_making.specs.Table.{parts}
use Rattle.cr_making.proofs.Done.{made_as}
use Rattle.cr_making.proofs.Loops.{ahead_made, none_behind, until_zero, until_some}
use Rattle.cr_constructs.proofs.constructs.Constructs.body.Goals as goal

pub returns : goal.returns
unfolding body
returns g c =
    let at = c.args.at in
    let ps = c.as_slice-parameters.result.now in
    let ls = c.as_slice-list.result.now in
    made_as
    (ap (λ (ts : List Tree). sequence at (said_lines v.Kept (parts ts) ++ said_lines v.Term (parts ls))) c.as_slice-parameters.ensures
    ∙ ap (λ (ts : List Tree). sequence at (said_lines v.Kept (parts c.args.parameters.now) ++ said_lines v.Term (parts ts))) c.as_slice-list.ensures)
    (ahead_made at c.in_ok-opened.opened (said_lines v.Kept (parts ps)) (said_lines v.Term (parts ls)) (until_some v.Term ls c.until_last-count.result c.until_last-count.ensures c.if-count-eq0.false) c.in_ok-opened.ensures.count c.in_ok-opened.ensures.made c.in_ok-sequence-2.ensures c.in_ok-close_all.ensures)

pub returns-then-count-eq0 : goal.returns-then-count-eq0
unfolding body
returns-then-count-eq0 g c =
    let at = c.args.at in
    let ps = c.as_slice-parameters.result.now in
    let ls = c.as_slice-list.result.now in
    made_as
    (ap (λ (ts : List Tree). sequence at (said_lines v.Kept (parts ts) ++ said_lines v.Term (parts ls))) c.as_slice-parameters.ensures
    ∙ ap (λ (ts : List Tree). sequence at (said_lines v.Kept (parts c.args.parameters.now) ++ said_lines v.Term (parts ts))) c.as_slice-list.ensures)
    (none_behind at (said_lines v.Kept (parts ps)) (said_lines v.Term (parts ls)) (until_zero v.Term ls c.until_last-count.result c.until_last-count.ensures c.if-count-eq0.true) c.in_ok-sequence.ensures)

use Rattle.cr_making.specs.Assigning.{change_element}
use Rattle.cr_making.proofs.Done.{wrap_made, join_made, using_made}
use Rattle.cr_constructs.proofs.Elements.{as_many, fresh_as}
use Rattle.cr_constructs.proofs.constructs.Constructs.change_element.Goals as goal

pub returns : goal.returns
unfolding change_element
returns g c = using_made _ (fresh_as (as_many c.args.indexes.now c.len.result c.len.ensures) c.in_ok-local.ensures)
    (wrap_made c.in_ok-open.ensures (join_made (wrap_made c.in_ok-open-2.ensures c.in_ok-term.ensures c.in_ok-close.ensures) c.in_ok-keep_and_put.ensures) c.in_ok-close-2.ensures)

use Rattle.cr_making.specs.Assigning.{keep_and_put}
use Rattle.cr_constructs.proofs.Elements.{kept_and_put}
use Rattle.cr_constructs.proofs.constructs.Constructs.keep_and_put.Goals as goal

pub returns : goal.returns
unfolding keep_and_put
returns g c = kept_and_put c.args.indexes.now c.args.operator c.args.mark c.args.local _ c.len-count.result c.len-count.ensures c.in_ok-keep_indexes.ensures c.in_ok-put_element.ensures c.in_ok-close_all.ensures

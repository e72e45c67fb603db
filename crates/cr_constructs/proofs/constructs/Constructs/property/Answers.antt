use Rattle.cr_making.proofs.Done.{join_made}
use Rattle.cr_making.specs.Declaring.{property}
use Rattle.cr_constructs.proofs.constructs.Constructs.property.Goals as goal

pub returns : goal.returns
unfolding property
returns g c = join_made c.in_ok-maybe_declaration.ensures (join_made c.in_ok-reader.ensures c.in_ok-writer.ensures)

use Rattle.cr_tables.proofs.Tabled.{named_from}
use Rattle.cr_tables.proofs.naming.class_named.Goals as goal

pub returns : goal.returns
returns c = named_from c.args.lookup.now.core.now c.args.name c.class_of_name.result c.class_of_name.ensures

use Rattle.cr_readers.specs.Cursor.{state_of}
use Rattle.cr_readers.specs.Descent.{read}
use Rattle.cr_decl.proofs.Surroundings.{by_name}
use Rattle.cr_decl.proofs.declarations.Declarations.def_behind.Goals as goal

pub returns : goal.returns
returns g c = by_name c.args.self.now.parser.turns (read c.args.self.now.parser.turns c.args.self.now.parser.deep) c.args.class c.args.at c.args.name c.in_method-within.result c.is_initialize-initialize.result (state_of c.args.cursor.now) (state_of c.def_inside.new.cursor) c.def_inside.result c.in_method-within.ensures c.is_initialize-initialize.ensures c.def_inside.ensures

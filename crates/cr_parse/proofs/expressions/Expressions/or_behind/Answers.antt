use Rattle.std.proofs.Common.{refl}
use Rattle.cr_readers.specs.Cursor.{state_of}
use Rattle.cr_readers.specs.Descent.{read}
use Rattle.cr_parse.proofs.Values.{nothing_goes_on}
use Rattle.cr_parse.proofs.expressions.Expressions.or_behind.Goals as goal

pub returns-then-ends : goal.returns-then-ends
returns-then-ends g c = nothing_goes_on c.args.self.now.parser.turns (read c.args.self.now.parser.turns c.args.self.now.parser.deep) c.args.self.now.within c.args.free c.args.left (state_of c.args.cursor.now) (c.if-ends.ensures.turns refl) (c.if-ends.ensures.none refl)

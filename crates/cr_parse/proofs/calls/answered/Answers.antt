use Rattle.std.proofs.Common.{rules, Ok}
use Rattle.cr_readers.specs.Cursor.{state_of}
use Rattle.cr_parse.specs.declared.calls.TheConstants.{MAX_TURNS, MAX_DEPTH}
use Rattle.cr_parse.proofs.Answered.{accepts, is_deep_enough}
use Rattle.cr_parse.proofs.calls.answered.Goals as goal

pub returns-in_err-tree-clause-accepted : goal.returns-in_err-tree-clause-accepted
returns-in_err-tree-clause-accepted c = accepts c.within_is_found.ensures MAX_TURNS MAX_DEPTH c.args.wanted (state_of c.args.cursor.now) (state_of c.read.new.cursor) c.from_residual.result (search rules)

pub returns-in_err-tree-clause-enough : goal.returns-in_err-tree-clause-enough
returns-in_err-tree-clause-enough c = is_deep_enough c.within_is_found.ensures MAX_TURNS MAX_DEPTH c.args.wanted (state_of c.args.cursor.now) c.turns_are_enough.ensures

pub returns-clause-accepted : goal.returns-clause-accepted
returns-clause-accepted c = accepts c.within_is_found.ensures MAX_TURNS MAX_DEPTH c.args.wanted (state_of c.args.cursor.now) (state_of c.read.new.cursor) (Ok c.into_inner.result) (rw (c.into_inner.ensures, ← c.mark-ahead.ensures) c.in_ok-tree.ensures)

pub returns-clause-reads : goal.returns-clause-reads
returns-clause-reads c = (state_of c.read.new.cursor, rw (c.into_inner.ensures, ← c.mark-ahead.ensures) c.in_ok-tree.ensures)

pub returns-clause-enough : goal.returns-clause-enough
returns-clause-enough c = is_deep_enough c.within_is_found.ensures MAX_TURNS MAX_DEPTH c.args.wanted (state_of c.args.cursor.now) c.turns_are_enough.ensures

use Rattle.cr_parse.proofs.Answered.{same_left}
use Rattle.cr_parse.proofs.calls.catch_up.Goals as goal

pub returns-clause-rest : goal.returns-clause-rest
returns-clause-rest c = λ front parts. rw (c.saturating_sub-cursor.ensures, c.saturating_sub-left.ensures) (same_left c.args.cursor.now.at c.args.cursor.now.list.now c.args.ahead.now.at c.args.ahead.now.list.now front parts)

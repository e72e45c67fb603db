use Rattle.std.proofs.Common.{◌∙◌}
use Rattle.cr_stack.proofs.Choosing.{taken_in_choice_by, choice_underway_more_by}
use Rattle.cr_stack.proofs.going.take_in_choice.Goals as goal

pub resume_clause-requires-clause-underway : goal.resume_clause-requires-clause-underway
resume_clause-requires-clause-underway c =
    choice_underway_more_by c.args.tree.now.rows c.args.node c.args.clauses c.reserve-room.new.self.items c.args.values c.in-Ok.values c.args.value
    (c.reserve-room.ensures.items ∙ c.into_vec-done.ensures) c.in-Ok.ensures.ok c.requires.lacks

pub returns-in-Ok : goal.returns-in-Ok
returns-in-Ok c =
    taken_in_choice_by c.args.tree.now c.args.around.now.items c.resume_clause.new.around.items c.args.node c.args.clauses c.reserve-room.new.self.items c.args.values c.in-Ok.values c.args.value c.resume_clause.result
    (c.reserve-room.ensures.items ∙ c.into_vec-done.ensures) c.in-Ok.ensures.ok c.resume_clause.ensures

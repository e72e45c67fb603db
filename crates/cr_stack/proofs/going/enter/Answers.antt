use Rattle.std.proofs.Common.{◌∙◌, sym, subst}
use Rattle.cr_core.specs.Shape as shape
use Rattle.cr_stack.specs.Neat.{Chooses}
use Rattle.cr_stack.specs.Way.{Underway}
use Rattle.cr_stack.proofs.Resuming.{enter_value, enter_parts_by, underway_first}
use Rattle.cr_stack.proofs.Choosing.{enter_choice_by, chooses_first}
use Rattle.cr_stack.proofs.going.enter.Goals as goal

pub returns-in-Some-clause-ok : goal.returns-in-Some-clause-ok
returns-in-Some-clause-ok c =
    enter_value c.args.tree.now c.requires.core c.args.around.now.items c.reserve.new.self.items c.args.node c.row.result.now c.row.ensures c.in-Some.value
    (λ P e. c.in_ok-value.ensures P e ∙ c.in-Some.is) c.in_ok-reserve.ensures.items

pub resume_choice-requires-clause-chooses : goal.resume_choice-requires-clause-chooses
resume_choice-requires-clause-chooses c =
    subst (Chooses c.args.tree.now.rows c.args.node) (sym c.new.ensures)
    (chooses_first c.args.tree.now c.requires.core c.args.around.now.items c.args.around.now.items c.args.node c.row.result.now c.row.ensures c.requires.term (sym c.is_choice.ensures ∙ c.if-is_choice.true))

pub returns-then-is_choice-clause-ok : goal.returns-then-is_choice-clause-ok
returns-then-is_choice-clause-ok c =
    enter_choice_by c.args.tree.now c.requires.core c.args.around.now.items c.resume_choice.new.around.items c.args.node c.row.result.now c.row.ensures
    c.reserve.new.self.items c.new.result c.resume_choice.result c.in_ok-reserve.ensures.items c.new.ensures (λ P e. c.in_ok-value.ensures P e ∙ c.in_default.is) c.resume_choice.ensures

pub resume-requires-clause-underway : goal.resume-requires-clause-underway
resume-requires-clause-underway c =
    subst (λ vs. Underway c.args.tree.now.rows c.args.node vs shape.Term) (sym c.new-2.ensures)
    (underway_first c.args.tree.now c.requires.core c.args.around.now.items c.args.around.now.items c.args.node c.row.result.now c.row.ensures c.requires.term (sym c.is_choice.ensures ∙ c.if-is_choice.false))

pub returns-clause-ok : goal.returns-clause-ok
returns-clause-ok c =
    enter_parts_by c.args.tree.now c.requires.core c.args.around.now.items c.resume.new.around.items c.args.node c.row.result.now c.row.ensures
    c.reserve.new.self.items c.new-2.result c.resume.result c.in_ok-reserve.ensures.items c.new-2.ensures (λ P e. c.in_ok-value.ensures P e ∙ c.in_default.is) c.resume.ensures

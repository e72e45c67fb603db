use Rattle.std.proofs.Common.{ap}
use Rattle.std.proofs.lemmas.Result.{IfOk-weaker}
use Rattle.cr_core.specs.declared.form.Form.{Form}
use Rattle.cr_core.specs.Shape.{portions}
use Rattle.cr_meaning.specs.Reduce.{is_truthy}
use Rattle.cr_fibers.specs.Held.{fiber_of}
use Rattle.cr_steps.specs.Step.{term_at}
use Rattle.cr_steps.proofs.Decided.{set_is, self_is, seq_is, if_is, and_is, or_is, while_is, taken_there, both_there, either_there}
use Rattle.cr_steps.proofs.deciding.decide_row.Goals as goal

pub part-next-requires : goal.part-next-requires
part-next-requires c = c.requires.part 1 (ap (λ (form : Form). term_at (portions form) 1) c.in-Seq.is)

pub part-first-requires : goal.part-first-requires
part-first-requires c = c.requires.part 1 (ap (λ (form : Form). term_at (portions form) 1) c.in-If.is)

pub part-second-requires : goal.part-second-requires
part-second-requires c = c.requires.part 2 (ap (λ (form : Form). term_at (portions form) 2) c.in-If.is)

pub part-right-requires : goal.part-right-requires
part-right-requires c = c.requires.part 1 (ap (λ (form : Form). term_at (portions form) 1) c.in-And.is)

pub part-other-requires : goal.part-other-requires
part-other-requires c = c.requires.part 1 (ap (λ (form : Form). term_at (portions form) 1) c.in-Or.is)

pub part-turn-requires : goal.part-turn-requires
part-turn-requires c = c.requires.part 0 (ap (λ (form : Form). term_at (portions form) 0) c.in-While.is)

pub returns-in-Set-clause-step : goal.returns-in-Set-clause-step
returns-in-Set-clause-step c =
    IfOk-weaker c.set.result _ _
    (λ it is. λ P s i choice fibers. set_is P s i (fiber_of P c.args.fiber.now) choice c.args.row.now c.args.values.now c.in-Set.named c.only.result.now it c.in-Set.is c.only.ensures is.0 (is.1 P s i))
    c.set.ensures.step

pub returns-in-Set-clause-there : goal.returns-in-Set-clause-there
returns-in-Set-clause-there c = IfOk-weaker c.set.result _ _ (λ it is. λ rows are. is rows) c.set.ensures.there

pub returns-in_ok-receiver-in-KeywordSelf-clause-step : goal.returns-in_ok-receiver-in-KeywordSelf-clause-step
returns-in_ok-receiver-in-KeywordSelf-clause-step c = λ P s i choice fibers.
    self_is P s i (fiber_of P c.args.fiber.now) choice c.args.row.now c.args.values.now c.in_ok-receiver-in-KeywordSelf.field-0 c.given-in-KeywordSelf.result c.in-KeywordSelf.is
    (c.in_ok-receiver-in-KeywordSelf.ensures P) c.given-in-KeywordSelf.ensures

pub returns-in-Seq-clause-step : goal.returns-in-Seq-clause-step
returns-in-Seq-clause-step c = λ P s i choice fibers.
    seq_is P s i (fiber_of P c.args.fiber.now) choice c.args.row.now c.args.values.now c.requires c.part-next.result c.in-Seq.is c.part-next.ensures

pub returns-in-Seq-clause-there : goal.returns-in-Seq-clause-there
returns-in-Seq-clause-there c = λ rows are. are 1 c.part-next.result (ap (λ (form : Form). term_at (portions form) 1) c.in-Seq.is) c.part-next.ensures

pub returns-in-If-clause-step : goal.returns-in-If-clause-step
returns-in-If-clause-step c = λ P s i choice fibers.
    if_is P s i (fiber_of P c.args.fiber.now) choice c.args.row.now c.args.values.now c.requires c.only-in-If.result.now c.taken.result c.part-first.result c.part-second.result
    c.in-If.is c.only-in-If.ensures c.taken.ensures c.part-first.ensures c.part-second.ensures

pub returns-in-If-clause-there : goal.returns-in-If-clause-there
returns-in-If-clause-there c = λ rows are.
    taken_there rows (is_truthy c.only-in-If.result.now) c.taken.result c.part-first.result c.part-second.result c.taken.ensures
    (are 1 c.part-first.result (ap (λ (form : Form). term_at (portions form) 1) c.in-If.is) c.part-first.ensures) (are 2 c.part-second.result (ap (λ (form : Form). term_at (portions form) 2) c.in-If.is) c.part-second.ensures)

pub returns-in-And-clause-step : goal.returns-in-And-clause-step
returns-in-And-clause-step c =
    IfOk-weaker c.both.result _ _
    (λ it is. λ P s i choice fibers.
    and_is P s i (fiber_of P c.args.fiber.now) choice c.args.row.now c.args.values.now c.requires c.only-in-And.result.now c.part-right.result it
    c.in-And.is c.only-in-And.ensures is c.part-right.ensures)
    c.both.ensures

pub returns-in-And-clause-there : goal.returns-in-And-clause-there
returns-in-And-clause-there c =
    IfOk-weaker c.both.result _ _
    (λ it is. λ rows are.
    both_there rows (is_truthy c.only-in-And.result.now) c.only-in-And.result.now c.part-right.result it is (are 1 c.part-right.result (ap (λ (form : Form). term_at (portions form) 1) c.in-And.is) c.part-right.ensures))
    c.both.ensures

pub returns-in-Or-clause-step : goal.returns-in-Or-clause-step
returns-in-Or-clause-step c =
    IfOk-weaker c.either.result _ _
    (λ it is. λ P s i choice fibers.
    or_is P s i (fiber_of P c.args.fiber.now) choice c.args.row.now c.args.values.now c.requires c.only-in-Or.result.now c.part-other.result it
    c.in-Or.is c.only-in-Or.ensures is c.part-other.ensures)
    c.either.ensures

pub returns-in-Or-clause-there : goal.returns-in-Or-clause-there
returns-in-Or-clause-there c =
    IfOk-weaker c.either.result _ _
    (λ it is. λ rows are.
    either_there rows (is_truthy c.only-in-Or.result.now) c.only-in-Or.result.now c.part-other.result it is (are 1 c.part-other.result (ap (λ (form : Form). term_at (portions form) 1) c.in-Or.is) c.part-other.ensures))
    c.either.ensures

pub returns-in-While-clause-step : goal.returns-in-While-clause-step
returns-in-While-clause-step c = λ P s i choice fibers.
    while_is P s i (fiber_of P c.args.fiber.now) choice c.args.row.now c.args.values.now c.requires c.part-turn.result c.in-While.is c.part-turn.ensures

pub returns-in-While-clause-there : goal.returns-in-While-clause-there
returns-in-While-clause-there c = λ rows are. are 0 c.part-turn.result (ap (λ (form : Form). term_at (portions form) 0) c.in-While.is) c.part-turn.ensures

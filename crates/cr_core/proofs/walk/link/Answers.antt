use Rattle.std.proofs.Common.{List, sym, ap, ◌∙◌, arith}
use Rattle.std.proofs.lemmas.List.{at_drop_all}
use Rattle.cr_core.specs.declared.row.Event.{Event}
use Rattle.cr_core.specs.Walk.{Seen, seen, steps, start}
use Rattle.cr_core.proofs.Walked.{walked_whole}
use Rattle.cr_core.proofs.walk.link.Goals as goal

pub returns-clause-rows : goal.returns-clause-rows
returns-clause-rows c = λ trees is.
    let done = at_drop_all (λ (es : List Event). steps es (seen c.loop-event.linking)) c.args.events.now c.loop-event.event-index (omega arith) in
    ap (λ (s : Seen). s.rows) (sym done ∙ c.loop-event.invariant.0)
    ∙ ap (λ (es : List Event). (steps es start).rows) is
    ∙ walked_whole trees

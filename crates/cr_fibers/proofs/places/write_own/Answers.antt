use Rattle.std.proofs.Common.{ap, arith, List}
use Rattle.std.proofs.lemmas.Option.{slice_get_read}
use Rattle.cr_meaning.specs.State as m
use Rattle.cr_fibers.specs.Held.{locals_of}
use Rattle.cr_fibers.proofs.Kept.{write_is}
use Rattle.cr_fibers.proofs.places.write_own.Goals as goal

pub returns-then-place-len : goal.returns-then-place-len
returns-then-place-len c =
    let found = c.index_mut-found.result.now in
    write_is c.args.locals.now.items c.args.place c.args.at c.args.value found _
    (slice_get_read c.args.locals.now.items _ c.args.place found c.args.locals.now.ok.0 (omega (arith, c.len.ensures)) c.index_mut-found.ensures.value)
    (ap (λ (slots : List m.Slot). record (locals_of found) { slots = slots }) c.write_slot.ensures)

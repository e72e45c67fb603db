use Rattle.std.proofs.lemmas.List.Elements.{All-map}
use Rattle.cr_schedule.specs.Entry.{HasLine}
use Rattle.cr_schedule.specs.Slot.{entry_of}
use Rattle.cr_schedule.proofs.history.History.length.Goals as goal

pub returns-clause-lines : goal.returns-clause-lines
returns-clause-lines c = rw (← c.self.view_is) (All-map HasLine entry_of c.self.inside.slots.items c.self.invariant)

-- The entry that a slot keeps. What is absent has a number of its own.
use Rattle.std.specs.Prelude.{ℕ, ◌==◌, if◌then◌else◌, Option, Some, None}
use Rattle.cr_base.specs.declared.ids.FiberId.{FiberId}
use Rattle.cr_schedule.specs.declared.entry.Entry.{Entry}
use Rattle.cr_schedule.specs.declared.entry.Entry.TheVariants.{Steps, Wait, Resume}
use Rattle.cr_schedule.specs.declared.slot.Slot.{Slot}
use Rattle.cr_schedule.specs.declared.slot.TheConstants.{WAIT, RESUME, NO_CLAUSE, NO_PARTNER}

abbrev pub clause_of : ℕ → Option ℕ
clause_of clause = if clause == NO_CLAUSE then None else Some clause

abbrev pub partner_of : Slot → Option FiberId
partner_of slot = if slot.partner_clause == NO_PARTNER then None else Some (record { 0 = slot.partner })

abbrev pub partner_clause_of : Slot → Option ℕ
partner_clause_of slot = if slot.partner_clause == NO_PARTNER then None else clause_of slot.partner_clause

abbrev pub steps_of : Slot → Entry
steps_of slot =
    Steps (record { 0 = slot.fiber }) slot.count (clause_of slot.clause) (partner_of slot) (partner_clause_of slot)

-- a wait and a resume are told by counts that no steps have
abbrev pub entry_of : Slot → Entry
entry_of slot =
    if slot.count == WAIT then Wait (record { 0 = slot.fiber })
    else if slot.count == RESUME then Resume (record { 0 = slot.fiber })
    else steps_of slot

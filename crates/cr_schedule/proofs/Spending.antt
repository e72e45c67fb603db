-- What the entries up to a place spend.
use Rattle.std.proofs.Common.{◌≡◌, ℕ, ◌+◌, ◌≤◌, List, take, Some, ◌∙◌, ap}
use Rattle.std.specs.Prelude.{slice_get}
use Rattle.std.proofs.lemmas.List.{take_more}
use Rattle.std.proofs.lemmas.List.Sums.{sum_by_push, sum_by-take-le}
use Rattle.std.proofs.lemmas.Option.{get_or_from_slice_get, slice_get_within}
use Rattle.cr_schedule.specs.declared.entry.Entry.{Entry}
use Rattle.cr_schedule.specs.Entry.{spent_by, spent}

pub spent_more : (entries : List Entry) (at : ℕ) (entry : Entry) → slice_get entries at ≡ Some entry → spent (take (at + 1) entries) ≡ spent (take at entries) + spent_by entry
spent_more entries at entry is =
    ap spent (take_more entries at entry (slice_get_within entries at entry is))
    ∙ sum_by_push spent_by (take at entries) _
    ∙ ap (λ (e : Entry). spent (take at entries) + spent_by e) (get_or_from_slice_get entries at entry entry is)

pub spent-take-le : (entries : List Entry) (at : ℕ) → spent (take at entries) ≤ spent entries
spent-take-le entries at = sum_by-take-le spent_by entries at

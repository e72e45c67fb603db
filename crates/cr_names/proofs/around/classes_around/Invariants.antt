use Rattle.std.proofs.Common.{◌≡◌, ◌<◌, ℕ, length}
use Rattle.cr_names.specs.Names.{class_around}
use Rattle.cr_names.specs.Tables.{told}
use Rattle.cr_names.proofs.around.classes_around.Given as goal

abbrev pub invariant-loop-row : goal.invariant-loop-row
invariant-loop-row l = (length l.table.items ≡ l.row-index) × ((n : ℕ) → n < l.row-index → told l.table.items n ≡ class_around l.rows n)

-- What contracts see of a history.
use Rattle.std.specs.Prelude.{ℕ, List}
use Rattle.cr_schedule.specs.declared.entry.Entry.{Entry}

pub record Record : Type 0 where
  pub entries : List Entry
  -- how many more entries it takes without memory
  pub spare : ℕ

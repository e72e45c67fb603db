-- The limits of a run. A reduction that would pass one raises.
use Rattle.std.specs.Prelude.{ℕ}

-- calls in progress of one fiber; blocks in progress are none
abbrev pub most_frames : ℕ
most_frames = 10000

-- fibers that were made, main included
abbrev pub most_fibers : ℕ
most_fibers = 65536

-- contexts that were made, the default one included
abbrev pub most_contexts : ℕ
most_contexts = 256

-- cells that were made
abbrev pub most_cells : ℕ
most_cells = 4000000

-- items that a channel settles at most
abbrev pub most_capacity : ℕ
most_capacity = 65536

-- fibers of a parallel context that are current at most
abbrev pub most_size : ℕ
most_size = 64

-- What public clauses cite.
pub mod Layers
pub mod Neat
pub mod Steps
pub mod Shown
pub mod Jumps
-- What only carries a proof inside.
pub mod Way

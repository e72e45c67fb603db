-- What public clauses cite.
pub mod Cells
pub mod Told
-- What only carries a proof inside.
pub mod Parts

-- What public clauses cite.
pub mod Declaring
pub mod Blocks
-- What only carries a proof inside.
pub mod Marking

-- What public clauses cite.
pub mod Layout
pub mod Examples
-- What only carries a proof inside.
pub mod Parts

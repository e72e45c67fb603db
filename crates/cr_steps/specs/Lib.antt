-- What public clauses cite.
pub mod Control
-- What only carries a proof inside.
pub mod Step

-- What public clauses cite.
pub mod Above
pub mod Line
pub mod Rooted
pub mod Reckoned
pub mod Examples
-- What only carries a proof inside.
pub mod Making

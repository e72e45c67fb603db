-- What public clauses cite.
pub mod Control
pub mod Ways
pub mod Assigned
pub mod Captured
pub mod Uses
pub mod Several
-- What only carries a proof inside.
pub mod Chain
pub mod Outs
pub mod Under
pub mod Steps

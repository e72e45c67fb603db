-- What public clauses cite.
pub mod Obvious
pub mod Written
pub mod Spawned
pub mod Offences
pub mod Examples
-- What only carries a proof inside.
pub mod Homes
pub mod Deciding
pub mod Leading

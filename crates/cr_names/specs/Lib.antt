-- What public clauses cite.
pub mod Names
pub mod Tables
pub mod Above
pub mod Offences
pub mod Cyclic
-- What only carries a proof inside.
pub mod Deciding
pub mod Growing
pub mod Leading

-- What public clauses cite.
pub mod Machine

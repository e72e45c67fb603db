-- What public clauses cite.
pub mod Methods
pub mod Choice
pub mod Places

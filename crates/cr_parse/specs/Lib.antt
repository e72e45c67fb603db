-- What public clauses cite.
pub mod Calls
-- What only the readers inside cite.
pub mod Levels
pub mod Links
pub mod Literals
pub mod Named
pub mod Parts
pub mod Primaries
pub mod Rest
pub mod Targets

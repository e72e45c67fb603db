-- What public clauses cite.
pub mod Held
pub mod Steps
pub mod Entering
-- What only private clauses cite.
pub mod Inner

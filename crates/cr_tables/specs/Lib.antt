-- What public clauses cite.
pub mod Numbers
pub mod Hierarchy
pub mod Types
pub mod BuiltIns
pub mod Methods
pub mod Choosing
pub mod World
pub mod Tables
pub mod Classes
-- Examples.
pub mod Examples
-- What only carries a proof inside.
pub mod Making

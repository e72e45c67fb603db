-- What contracts cite.
pub mod Arrays
pub mod Cells
pub mod Equality
pub mod Hashes
pub mod Numbers
pub mod Operations
pub mod Outcomes
pub mod Raises
pub mod Samples
pub mod Scalars
pub mod Texts
-- What only carries a proof inside.
pub mod Answers

-- What public clauses cite.
pub mod Lowering
pub mod Laws
-- What only carries a proof inside.
pub mod Blank
pub mod Marking
pub mod Made

-- What public clauses cite.
pub mod Pieces
pub mod Proper
pub mod Fits
pub mod Writes
pub mod Laws
-- What only carries a proof inside.
pub mod Bytes

-- What public clauses cite.
pub mod Core
pub mod Shape
pub mod Arena
pub mod Standing
pub mod Tree
pub mod Order
pub mod Scopes
-- What only carries a proof inside.
pub mod Walk
pub mod Placed
pub mod Settle

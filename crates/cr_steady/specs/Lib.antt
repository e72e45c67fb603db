-- What contracts cite.
pub mod Laws
-- What carries the proofs.
pub mod Steady

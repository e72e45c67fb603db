pub mod Walked
pub mod Standing
pub mod Sorted
pub mod Settled
pub mod Sample

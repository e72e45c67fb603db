pub mod Outwards
pub mod Scoped
pub mod Unspawned
pub mod Decided
pub mod Earliest

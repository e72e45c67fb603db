pub mod Places
pub mod Noted
pub mod Outwards
pub mod Owning
pub mod Decided
pub mod Grown
pub mod Turning
pub mod Earliest

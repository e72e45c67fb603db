pub mod Derive
pub mod Spelled
pub mod First
pub mod Passing
pub mod Unless

pub mod Arithmetic
pub mod Division
pub mod Showing
pub mod Text

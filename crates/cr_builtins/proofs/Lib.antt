pub mod Arithmetic
pub mod Lengths
pub mod Pairs

pub mod Cells
pub mod Keeping
pub mod Named
pub mod Receivers

pub mod Characters
pub mod Dividing
pub mod Printed
pub mod Wrapping

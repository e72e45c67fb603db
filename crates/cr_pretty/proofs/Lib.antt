pub mod Laid
pub mod Digits
pub mod Written

pub mod Listed
pub mod Chosen
pub mod Kept
pub mod Answered
pub mod Tabled

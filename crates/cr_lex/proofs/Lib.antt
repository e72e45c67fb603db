pub mod LongestOperator
pub mod WordBytes
pub mod Values
pub mod Marked
pub mod Slices
pub mod Scanned
pub mod PartsRead
pub mod PartText
pub mod PlainText
pub mod Dispatch
pub mod Stepping
mod Answered

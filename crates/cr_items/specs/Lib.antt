pub mod Channel
pub mod Kept

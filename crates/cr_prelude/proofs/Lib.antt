pub mod Apart
pub mod Search

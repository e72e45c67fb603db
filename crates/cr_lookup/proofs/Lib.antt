pub mod Best
pub mod Members

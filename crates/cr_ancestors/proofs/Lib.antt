pub mod Members
pub mod Kept
pub mod Made
pub mod Stuck
pub mod Closing
pub mod Lookup
pub mod Ends
pub mod Reckoned

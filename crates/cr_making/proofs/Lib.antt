pub mod Done
pub mod Alone
pub mod Nests
pub mod Found
pub mod Loops
pub mod Tables
pub mod Names

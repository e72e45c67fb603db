pub mod Longest
pub mod Words
pub mod Numbers
pub mod Texts
pub mod Parts
pub mod Step

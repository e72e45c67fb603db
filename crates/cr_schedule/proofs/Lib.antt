pub mod Spending
pub mod Digits
pub mod Numbers
pub mod Lines
pub mod Traces
pub mod Pages
pub mod Sinks

pub mod Entry
pub mod Slot
pub mod History
pub mod Trace
pub mod Reading
pub mod Page

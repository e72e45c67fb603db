mod Values
mod Around
mod Kept
mod Beginning
mod Reducing
mod Reading
mod Entered

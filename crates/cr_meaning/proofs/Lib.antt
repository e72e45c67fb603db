mod Evolving
mod Kept
mod Sending
mod Reducing
mod Runs
mod Choices
mod Partners
mod Passing

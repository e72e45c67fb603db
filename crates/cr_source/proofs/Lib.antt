mod Refusals
mod Answered

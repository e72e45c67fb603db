-- What public clauses cite: what the meaning reads of a program, terms and states, one reduction, histories.
pub mod World
pub mod Limits
pub mod Term
pub mod State
pub mod Redex
pub mod Act
pub mod Locals
pub mod Calls
pub mod Fibers
pub mod Channels
pub mod Builtins
pub mod Reduce
pub mod Run
pub mod Histories
pub mod Meetings
-- Examples.
pub mod Programs
pub mod Examples
pub mod Counted
pub mod Counts

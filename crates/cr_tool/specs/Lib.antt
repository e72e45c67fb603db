-- What public clauses cite: the words of a command line, what a program means, and what a command answers.
pub mod Words
pub mod Sums
pub mod Term
pub mod State
pub mod Program
pub mod Outside
pub mod Endings
pub mod Refusals
pub mod Answer
pub mod Run
pub mod Still
pub mod Tool
-- What only carries a proof inside.
pub mod Writing
pub mod Evaluated
pub mod Closed
pub mod Opened
pub mod Ended
pub mod Telling
pub mod Reported
pub mod Commands

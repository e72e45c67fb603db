pub mod Laws
pub mod LimitLaws
pub mod Answers
pub mod Programs
pub mod Bodies
pub mod Examples
pub mod Trees

-- what public clauses cite
pub mod Set
pub mod Table
-- what only carries a proof inside
pub mod Kept
pub mod Same

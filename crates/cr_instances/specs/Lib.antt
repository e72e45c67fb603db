-- what public clauses cite
pub mod Keys
-- what only carries a proof inside
pub mod Same

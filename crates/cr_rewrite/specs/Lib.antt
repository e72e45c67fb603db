-- What public clauses cite: a whole program, by the table of rewritings in `cr_making`.
pub mod Whole
-- What only carries a proof inside.
pub mod Left

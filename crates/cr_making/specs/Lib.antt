-- What public clauses cite: which name is a local, ways to make core trees, and the table of rewritings, which the crates
-- above go by: its definitions stand together here, and only that of a whole program in `cr_rewrite`.
pub mod Slots
pub mod Naming
pub mod Making
pub mod Words
pub mod Part
pub mod Terms
pub mod Control
pub mod Assigning
pub mod Declaring
pub mod Table
-- What the code does, said by what is made, and the places where a construct may stand.
pub mod Made
pub mod View
pub mod Knot

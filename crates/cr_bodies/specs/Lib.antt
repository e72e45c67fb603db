-- What contracts cite.
pub mod Nests
pub mod Items
pub mod Atoms
pub mod Clauses

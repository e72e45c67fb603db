-- What contracts cite.
pub mod Builtins
pub mod Methods
pub mod Trees

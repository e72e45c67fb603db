-- What contracts cite.
pub mod Source
pub mod Laws

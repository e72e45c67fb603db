-- What contracts cite.
pub mod Bodies
pub mod Classes
pub mod Lists
pub mod Methods
pub mod Names

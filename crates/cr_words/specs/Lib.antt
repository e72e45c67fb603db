-- What the functions here answer.
pub mod Gives
pub mod Tables
-- What loops gather.
pub mod Lists

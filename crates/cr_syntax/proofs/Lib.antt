pub mod Places
mod Unique
mod Total
mod Named

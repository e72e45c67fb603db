mod Sets
mod Merge
mod Tables
mod Equal
mod Found
mod Members
mod Classes
mod Fronts

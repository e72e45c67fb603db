mod Keys
mod Found
mod Fronts

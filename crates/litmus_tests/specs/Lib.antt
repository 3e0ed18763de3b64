pub mod Conditions
pub mod Limits
pub mod Locations
pub mod WellFormed

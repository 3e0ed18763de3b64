pub mod Counts
pub mod Naming
pub mod Prediction
pub mod Roles
pub mod Turns
pub mod Waiting

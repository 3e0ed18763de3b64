pub mod Reasons
pub mod Exact
pub mod Waiting

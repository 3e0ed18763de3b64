pub mod Steps
pub mod Ways
pub mod Keeping

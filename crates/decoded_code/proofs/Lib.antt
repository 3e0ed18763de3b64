pub mod Fetching
pub mod Writing

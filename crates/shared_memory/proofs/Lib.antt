pub mod Places
pub mod Starting
pub mod Checking
pub mod Writing
pub mod Ending

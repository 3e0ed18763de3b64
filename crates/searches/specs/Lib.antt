pub mod Orders
pub mod Found
pub mod Unmade
pub mod Ending
pub mod Tied
pub mod Sweeps
pub mod Dives
pub mod Marks

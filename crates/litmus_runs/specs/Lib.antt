pub mod AllWays
pub mod Needed
pub mod Numbers
pub mod Rounds
pub mod Steps
pub mod Turns
pub mod Ways
pub mod Work

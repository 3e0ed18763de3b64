pub mod Rounds
pub mod Limits
pub mod Tables

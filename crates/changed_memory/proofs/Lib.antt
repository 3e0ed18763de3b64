pub mod Canonical
pub mod Changing
pub mod Kept
pub mod Writing

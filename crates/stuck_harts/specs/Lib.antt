pub mod Turns
pub mod Spins
pub mod Lines

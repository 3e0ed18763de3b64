pub mod Asked
pub mod Deciding
pub mod Lines
pub mod Refusals
pub mod Again

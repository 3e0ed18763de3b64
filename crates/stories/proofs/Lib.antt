pub mod Stepping
pub mod Hearing
pub mod Keeping
pub mod Recording

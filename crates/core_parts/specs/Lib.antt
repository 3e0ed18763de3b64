pub mod Accesses
pub mod Agree
pub mod Checkpoints
pub mod First
pub mod Listed
pub mod Place
pub mod Squash

pub mod Lines
pub mod Following
pub mod Asking
pub mod Turns

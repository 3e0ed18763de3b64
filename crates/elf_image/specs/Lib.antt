pub mod Image
pub mod Layout
pub mod Refusal
pub mod Checks
pub mod Loaded
pub mod Written

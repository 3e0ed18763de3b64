pub mod Sizes
pub mod Layout

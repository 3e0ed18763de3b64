pub mod Refused
pub mod Inputs

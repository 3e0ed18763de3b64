pub mod Lists
pub mod Allowed
pub mod Fates
pub mod Registers

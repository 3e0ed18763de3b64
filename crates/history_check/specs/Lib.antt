pub mod Checking
pub mod Rerun

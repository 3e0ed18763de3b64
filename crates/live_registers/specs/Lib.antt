pub mod Targets
pub mod Onward
pub mod Table

pub mod Registers
pub mod Finding

pub mod Fields
pub mod Table
pub mod Decode
pub mod Registers
pub mod Kinds
pub mod UnitNames

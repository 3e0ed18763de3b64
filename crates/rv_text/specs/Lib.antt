pub mod Mnemonic
pub mod Operands
pub mod Spelling
pub mod Reading
pub mod Registers

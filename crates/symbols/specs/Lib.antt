pub mod Sections
pub mod Symbols
pub mod Naming
pub mod Tables
pub mod Parts
pub mod Meanings

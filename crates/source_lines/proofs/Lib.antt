pub mod Cutting
pub mod Faulty
pub mod Growing
pub mod Halving

pub mod Kinds
pub mod Counting
pub mod Text
pub mod Sums

pub mod Counting
pub mod Each
pub mod Printing
pub mod Reading
pub mod Spelling
pub mod Splitting
pub mod Values

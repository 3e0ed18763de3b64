pub mod Ends
pub mod Table
pub mod Answers
pub mod Kept

pub mod Answers
pub mod How
pub mod Line
pub mod Listing
pub mod Unwritten

pub mod Answers
pub mod Headline
pub mod Following
pub mod Counts
pub mod Shown

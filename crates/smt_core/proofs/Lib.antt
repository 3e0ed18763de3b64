pub mod Headline
pub mod Counting

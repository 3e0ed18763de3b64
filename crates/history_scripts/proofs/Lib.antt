pub mod Jobs
pub mod Following
pub mod Acting
pub mod Repeating
pub mod Numbered
pub mod Worded
pub mod Judging

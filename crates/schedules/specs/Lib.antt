pub mod Asks
pub mod Turns
pub mod Ran
pub mod Schedules
pub mod Refusals
pub mod Replies
pub mod Retiring

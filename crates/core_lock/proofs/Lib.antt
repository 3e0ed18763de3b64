pub mod Laid
pub mod Replies
pub mod Same
pub mod Tallying
pub mod BoardRule
pub mod Telling

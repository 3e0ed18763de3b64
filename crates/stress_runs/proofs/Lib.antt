pub mod Counting
mod Staying
pub mod Same
pub mod Tallying
pub mod Ordering
pub mod Rows
pub mod Watched

pub mod Counting
pub mod Expecting
pub mod Lines
pub mod Reading
pub mod Sources
pub mod Statuses

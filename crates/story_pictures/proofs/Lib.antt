pub mod Ordering
pub mod Marking
pub mod Lines

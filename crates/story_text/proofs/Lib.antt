pub mod Noting
pub mod Ordering

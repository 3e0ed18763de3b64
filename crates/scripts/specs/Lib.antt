pub mod Script
pub mod Order
pub mod Lines
pub mod Unambiguous
pub mod Session
pub mod Run
pub mod Comments

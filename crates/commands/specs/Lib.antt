pub mod Commands
pub mod Perform
pub mod Written
pub mod Explain
pub mod List
pub mod Tested
pub mod Typed
pub mod Suites

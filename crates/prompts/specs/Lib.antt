pub mod Typed
pub mod Kept
pub mod Printed
pub mod Answers
pub mod Prompted
pub mod Session

pub mod Words
pub mod Steps
pub mod Code
pub mod Image
pub mod Watching

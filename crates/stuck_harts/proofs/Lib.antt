pub mod Turning
pub mod Watching

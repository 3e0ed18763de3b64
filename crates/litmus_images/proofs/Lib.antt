pub mod Images
pub mod Lengths
pub mod Ranges
pub mod Sound
pub mod Turns
pub mod Watched

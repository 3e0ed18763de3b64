-- What one event leaves and what it changes, part by part of the picture.
pub mod Calm
pub mod Harts
pub mod Freeing
pub mod Filling
pub mod Mapping
pub mod Squash
pub mod SquashedRegisters
pub mod FreedRegisters
pub mod Emptying

-- What every legal history says of its instructions: in which order they are, and that they are there once.
pub mod Order
pub mod Once
pub mod Choosing

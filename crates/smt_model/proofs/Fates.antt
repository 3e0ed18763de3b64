-- What every legal history says of its instructions: how they move on, and which there are.
pub mod Moves
pub mod Sound
pub mod Numbers

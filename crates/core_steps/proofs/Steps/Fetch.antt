-- A fetch.
pub mod Parts
pub mod Choice

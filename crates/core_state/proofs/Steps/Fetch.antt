-- A fetch.
pub mod Rules
pub mod State

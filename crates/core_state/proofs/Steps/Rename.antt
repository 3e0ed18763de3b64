-- A rename.
pub mod Rules
pub mod State

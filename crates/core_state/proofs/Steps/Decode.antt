-- A decode.
pub mod Rules
pub mod State

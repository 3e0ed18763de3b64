-- A decode.
pub mod Parts

-- A job that is handed back: a completion or a drop.
pub mod Parts
pub mod Member
pub mod Map

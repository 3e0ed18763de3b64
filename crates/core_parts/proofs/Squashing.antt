-- A squash of one hart, which a completion or a retirement makes.
pub mod Parts
pub mod Shared
pub mod Registers
pub mod Map

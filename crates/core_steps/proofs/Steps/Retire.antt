-- A retirement.
pub mod Memory
pub mod Touching
pub mod Parts
pub mod Replay
pub mod Abandon
pub mod Halt
pub mod Checkpoints

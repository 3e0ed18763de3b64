-- The agreement of the parts with the picture, part by part: at the beginning, and after a change.
pub mod Harts
pub mod Rest
pub mod Shared
pub mod Accesses
pub mod Checkpoints
pub mod Queues
pub mod Beginning

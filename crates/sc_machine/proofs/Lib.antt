pub mod Accesses
pub mod Advancing
pub mod Beginning
pub mod Executing
pub mod Harts
pub mod Running
pub mod Stepping

-- A retirement.
pub mod Wanted
pub mod Rules
pub mod Look
pub mod Writes
pub mod Touched
pub mod State

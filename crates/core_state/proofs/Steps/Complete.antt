-- A job that is handed back: a completion or a drop.
pub mod Rules
pub mod State
pub mod Job
pub mod Look
pub mod Memory

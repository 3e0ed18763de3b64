pub mod Queues
pub mod Looks
pub mod Stores
pub mod Histories

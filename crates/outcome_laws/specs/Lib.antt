pub mod Paths
pub mod Tables
pub mod Local
pub mod Live
pub mod Search

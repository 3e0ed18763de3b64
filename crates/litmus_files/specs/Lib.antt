pub mod Names
pub mod File

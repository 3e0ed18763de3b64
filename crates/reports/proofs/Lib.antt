pub mod WordLines
pub mod Latest

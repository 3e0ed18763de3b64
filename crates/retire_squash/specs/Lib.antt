pub mod Active
pub mod Ring

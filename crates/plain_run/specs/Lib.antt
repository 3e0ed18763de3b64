pub mod Left
pub mod LeftInside
pub mod Orders

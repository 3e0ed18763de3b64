pub mod Drawings
pub mod Found
pub mod Counted
pub mod Whys
pub mod Text
pub mod Pictures

pub mod Fields
pub mod Deeds
pub mod Text
pub mod Telling
pub mod Order

pub mod Agreement
pub mod Listing
pub mod Squashing

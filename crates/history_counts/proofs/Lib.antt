pub mod Listing
mod Places
mod Rows

pub mod DecodedLemmas
mod Rows

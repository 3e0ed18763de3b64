pub mod Answers
pub mod Refusals
pub mod Setup
pub mod State
pub mod View
pub mod Listed

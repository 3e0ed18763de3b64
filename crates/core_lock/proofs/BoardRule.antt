-- That each step of a seat keeps the rule of the board's words.
pub mod Places
pub mod Keeping
pub mod Stepping
pub mod Dealing

pub mod ConfigText
pub mod Places
pub mod ConfigRefusal
pub mod ImageText
pub mod ImageRefusal
pub mod Explained

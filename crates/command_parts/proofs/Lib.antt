pub mod OfImage
pub mod OneImage

pub mod Deeds
pub mod Story
pub mod Takers
pub mod Spans
pub mod Notes
pub mod Laws

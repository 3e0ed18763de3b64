pub mod Contents
pub mod MemoryInside

pub mod Rising
pub mod Stages
pub mod Turning

pub mod Files
pub mod Names
pub mod Performed
pub mod ProgressLine
pub mod ReadFiles
pub mod Words

-- Which rule a given event breaks, and what an allowed one does.
pub mod Place
pub mod Tests
pub mod Sameness
pub mod Decode
pub mod Counts
pub mod Rename
pub mod Issue
pub mod Fetch
pub mod Complete
pub mod Retire

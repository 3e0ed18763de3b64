-- An issue.
pub mod Parts
pub mod Next

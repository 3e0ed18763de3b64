-- An issue.
pub mod Rules
pub mod State

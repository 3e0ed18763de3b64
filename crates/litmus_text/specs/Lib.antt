pub mod Value
pub mod Condition
pub mod State
pub mod Summary
pub mod States
pub mod Verdict

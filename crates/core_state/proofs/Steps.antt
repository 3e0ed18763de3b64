-- The steps of a core. Of each: what the rules allow, what the parts do, what the state owes.
pub mod Invariant
pub mod Asked
pub mod NoAnswer
pub mod Fetch
pub mod Decode
pub mod Rename
pub mod Issue
pub mod Complete
pub mod Retire
pub mod Refetch

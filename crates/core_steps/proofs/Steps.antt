-- The steps over the parts.
pub mod SameOp
pub mod Fetch
pub mod Decode
pub mod Rename
pub mod Issue
pub mod Complete
pub mod OtherMap
pub mod Retire

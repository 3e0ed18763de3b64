-- The converse of the headline.
pub mod Counting
pub mod Spare
pub mod Units
pub mod Answering
pub mod Turns
pub mod Replies
pub mod Places
pub mod Stages
pub mod Finishing
pub mod Feeding
pub mod UnitAsks
pub mod Turning
pub mod Starting
pub mod EachRun
pub mod Refetching
pub mod InTwelve
pub mod Costs

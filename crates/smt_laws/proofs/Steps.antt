-- What each kind of event changes in the picture of a history: a file for each record of `specs/Steps`.
pub mod Fetch
pub mod Decode
pub mod Rename
pub mod RenameMap
pub mod Issue
pub mod Complete
pub mod Misprediction
pub mod Drop
pub mod Retire
pub mod RetireCommits
pub mod Leaving
pub mod End
pub mod Refetch
pub mod Replay
pub mod ReplaySquash

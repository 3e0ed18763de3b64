-- A refetch.
pub mod Rules
pub mod State

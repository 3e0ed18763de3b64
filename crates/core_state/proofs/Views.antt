-- What callers read of a state.
pub mod Viewed
pub mod Register
pub mod FreeRegisters
pub mod OpenJobs

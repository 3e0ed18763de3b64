mod Numbers
pub mod Places
mod Edges
mod Orders
mod Walking
mod Growing
mod Adding
mod Noting
mod Turning
mod Finding
mod Tracing
mod Extents
mod Marking

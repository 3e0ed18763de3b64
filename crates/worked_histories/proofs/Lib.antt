pub mod Histories
mod OneHart
mod Accesses
mod Calls
mod Fetching
mod Forwarding
mod Looks
mod Memory
mod Mispredictions
mod Refusals
mod Renaming
mod Refetching
mod Reservations
mod Results
mod Squashes
mod Touched
mod Units
mod Statements

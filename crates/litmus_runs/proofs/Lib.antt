mod Alike
mod Closed
mod Finds
mod Gathering
mod Leads
mod Listing
mod Stack
mod Tables

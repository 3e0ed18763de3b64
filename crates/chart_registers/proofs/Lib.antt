mod Found
mod Noted
mod Latched
mod Followed

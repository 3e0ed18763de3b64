pub mod Shared
pub mod Canonical
pub mod Places
pub mod Same
pub mod SameLaws
pub mod Keeping

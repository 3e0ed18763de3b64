mod Below
mod Listed
pub mod Good

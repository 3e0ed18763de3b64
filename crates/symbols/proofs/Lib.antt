pub mod Before
pub mod FirstOf
pub mod Entries
pub mod LastFile
pub mod NameMeanings

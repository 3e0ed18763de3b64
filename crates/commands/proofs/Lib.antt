pub mod OfLine
pub mod OfExplain
pub mod Sound
pub mod SoundCommands
pub mod OfTyped
pub mod OfTest
pub mod OfMigration
pub mod OfRuns
mod OfLabels
mod OfCores
mod OfSuites
mod OfSuiteLine

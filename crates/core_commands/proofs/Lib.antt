pub mod OfAccount
mod OfCoreStory
pub mod OfAnswer
pub mod OfStep
pub mod OfPrompt
pub mod OfRun
pub mod OfStress
pub mod OfTestRuns
pub mod OfCheck
pub mod OfScript
pub mod OfChart
pub mod OfColumns
mod OfTold
mod OfEnds
mod OfNamedAsks

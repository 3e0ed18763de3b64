pub mod OfPlain
pub mod OfRounds
pub mod OfDrawnOrders
pub mod OfSchedule
pub mod OfOutcomes
pub mod OfWrittenOrders
pub mod OfLitmus
pub mod OfStateOrders
pub mod OfShownStates
pub mod Retired
pub mod FirstSettling
pub mod OfWrittenStories
mod OfSuite
mod OfSummary

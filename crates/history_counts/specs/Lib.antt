pub mod Numbers
pub mod OfRows

pub mod OfTyped
mod OfSuites
mod Pieces

-- What every legal history says of registers: who names, writes and holds them, and their numbers.
pub mod Below
pub mod Namings
pub mod Standing
pub mod Sources
pub mod Committing
pub mod Held
pub mod Counts
pub mod Values
pub mod Reading
pub mod Operands

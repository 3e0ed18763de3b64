-- What every legal history says of registers: who claims them.
pub mod Claims

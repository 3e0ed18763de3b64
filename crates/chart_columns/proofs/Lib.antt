mod Raising
mod Counting
mod Rounding

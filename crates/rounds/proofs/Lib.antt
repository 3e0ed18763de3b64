pub mod Printing
pub mod Choosing
pub mod Stepping
pub mod Taking

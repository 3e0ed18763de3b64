pub mod Causes
pub mod Rows
pub mod Moves
pub mod Cells
pub mod Views
pub mod Bands
pub mod Order
pub mod Looks

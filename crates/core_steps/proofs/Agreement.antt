-- What the steps leave of the agreement of the parts with the picture.
pub mod Accesses
pub mod Checkpoints
pub mod Fill
pub mod Filled

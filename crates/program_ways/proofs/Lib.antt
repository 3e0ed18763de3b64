mod Bytes
mod Coming
mod Listing
mod Moving
mod SameOp

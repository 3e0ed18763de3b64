mod Keeping
mod Moving
mod Fresh
mod Growing
mod Cutting
mod Squashed
mod ByFetch
mod Banded

mod Broken
mod Repeating

mod Pictured
mod Lines
mod Counting

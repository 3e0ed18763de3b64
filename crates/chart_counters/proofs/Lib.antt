mod Arrays
mod Queued
mod Followed
mod Counting

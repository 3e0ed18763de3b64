mod AllShown
mod Together

mod Watching
mod Same

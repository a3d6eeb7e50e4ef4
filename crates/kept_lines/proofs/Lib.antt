mod Parsing
mod Windows
mod Reading

pub mod Ended
pub mod Writing

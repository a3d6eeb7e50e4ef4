pub mod Clock
pub mod Counted
pub mod Room
pub mod Session
pub mod Tally

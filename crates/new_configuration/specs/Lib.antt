pub mod Inner
pub mod Loosened
pub mod TakenOver

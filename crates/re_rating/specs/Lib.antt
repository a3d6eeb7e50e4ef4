pub mod Differences
pub mod Inner

pub mod Faults
pub mod Inner
pub mod Keeping
pub mod Kept
pub mod Runs

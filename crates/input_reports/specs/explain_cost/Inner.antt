pub mod Bounds
pub mod Writers

pub mod Causes
pub mod Known
pub mod Warnings

pub mod Active
pub mod Clock
pub mod FirstOf
pub mod Law
pub mod LocalTime
pub mod Matching
pub mod Support
pub mod Window

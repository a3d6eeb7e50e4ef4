pub mod Cut
pub mod Inner
pub mod Marked
pub mod MarkedReading

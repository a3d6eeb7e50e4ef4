pub mod Beginning
pub mod Clocks
pub mod Differences
pub mod Keeping
pub mod Law
pub mod Record

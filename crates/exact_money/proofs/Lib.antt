pub mod Rounding
pub mod Parts
pub mod Nearest
pub mod Spelled
pub mod AmountText

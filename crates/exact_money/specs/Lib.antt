pub mod Numeral
pub mod Millionths
pub mod Exact
pub mod Amount
pub mod Inner

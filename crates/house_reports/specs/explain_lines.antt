pub mod Added
pub mod Inner
pub mod Rows
pub mod StreamRows
pub mod Table

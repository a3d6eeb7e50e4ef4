pub mod Inner
pub mod ReadLines

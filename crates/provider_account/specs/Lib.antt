pub mod Inner
pub mod State

pub mod Inner
pub mod StatementsText

pub mod File
pub mod Reading
pub mod Recovery
pub mod Inner

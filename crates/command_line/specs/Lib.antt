pub mod Arguments
pub mod Fault
pub mod Inner
pub mod JsonStop

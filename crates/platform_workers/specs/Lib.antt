pub mod Inner
pub mod Laws
pub mod Platforms
pub mod Workers

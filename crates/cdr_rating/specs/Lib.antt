pub mod Inner
pub mod Law
pub mod Price
pub mod Pricing
pub mod Volumes

pub mod Chains
pub mod Differing

pub mod Changes
pub mod CostText
pub mod Costs
pub mod Explained
pub mod Inner
pub mod Laws
pub mod Numbers
pub mod ReadBack

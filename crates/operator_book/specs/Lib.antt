pub mod Due
pub mod Inner
pub mod Laws
pub mod State
pub mod Together

-- Words that private contracts and proofs alone use.
pub mod Adding
pub mod Ahead
pub mod Chain
pub mod Gathered
pub mod InTurn
pub mod Known
pub mod Progress

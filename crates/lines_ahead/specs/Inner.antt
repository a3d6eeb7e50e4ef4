-- Words that private contracts and proofs alone use.
pub mod Left
pub mod Work

-- Words that private contracts and proofs alone use.
pub mod InTurn
pub mod Jobs

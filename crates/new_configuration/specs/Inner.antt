-- Words that only private contracts and proofs use.
pub mod Added
pub mod Attempt
pub mod ValidTokens

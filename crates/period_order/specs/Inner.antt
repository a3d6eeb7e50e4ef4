-- Words that only private contracts and proofs use.
pub mod Collected
pub mod EventParties
pub mod Gives
pub mod Kept
pub mod Named

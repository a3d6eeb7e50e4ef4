-- Words that only private contracts and proofs use.
pub mod Allowed
pub mod Base
pub mod Seen
pub mod Turns

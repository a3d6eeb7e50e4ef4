-- Words that only private contracts and proofs use.
pub mod Lines
pub mod Writes
pub mod Finding
pub mod Window
pub mod State
pub mod Pending

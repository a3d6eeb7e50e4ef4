-- Words that only private contracts and proofs use.
pub mod Begun
pub mod Cells
pub mod Kept
pub mod Levels
pub mod MomentReading
pub mod Picked
pub mod Places
pub mod Ranges

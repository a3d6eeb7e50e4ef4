-- Words that only private contracts and proofs use.
pub mod Standing
pub mod StreamKept
pub mod StreamStanding
pub mod StreamTelling
pub mod Telling

-- Words that only private contracts and proofs use.
pub mod Counts
pub mod Credited
pub mod FirstPlaces
pub mod HashInput
pub mod Ids
pub mod Indexed
pub mod Sums
pub mod Versions

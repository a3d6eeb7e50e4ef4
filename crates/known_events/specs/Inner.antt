-- Words that only private contracts and proofs use.
pub mod Firsts
pub mod Keys
pub mod Lesser
pub mod Periods

-- Words that only private contracts and proofs use.
pub mod Fields
pub mod InOrder
pub mod Narrowed
pub mod Settled
pub mod Writers

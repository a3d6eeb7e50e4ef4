-- Words that only private contracts and proofs use.
pub mod AccountIndex
pub mod Charged
pub mod Counts
pub mod DebtKeys
pub mod Debts
pub mod Ended
pub mod HashInput
pub mod HoldKeys
pub mod HoldSums
pub mod Holds
pub mod Owed
pub mod Sums
pub mod Tokens

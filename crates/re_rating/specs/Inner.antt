-- Words that private contracts and proofs use and no reader has to believe.
pub mod OneDifference

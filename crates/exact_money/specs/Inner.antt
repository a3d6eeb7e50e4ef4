-- Words that the proofs use and no reader has to believe.
pub mod NumeralOf

pub mod AddedRows
pub mod DigitLemmas
pub mod DigitValues
pub mod SameSums

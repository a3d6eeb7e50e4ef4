pub mod AddedLemmas
pub mod StreamLemmas
pub mod StreamTableLemmas
pub mod TableLemmas

pub mod CapitalLemmas

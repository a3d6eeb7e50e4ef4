pub mod AdmissionLemmas
pub mod ConditionLemmas
pub mod PartyLemmas
pub mod PostLemmas
pub mod PriceLemmas
pub mod TestsLemmas

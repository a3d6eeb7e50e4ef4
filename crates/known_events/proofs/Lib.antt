pub mod AfterLemmas
pub mod BookedLemmas
pub mod FirstsLemmas
pub mod GivenLemmas
pub mod KeysLemmas
pub mod LesserLemmas
pub mod PeriodsLemmas
pub mod RegisteredLemmas

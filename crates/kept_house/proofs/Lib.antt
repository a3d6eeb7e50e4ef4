pub mod RecordLemmas
pub mod SeenLemmas
pub mod BeginningLemmas
pub mod KeepingLemmas
pub mod OneConfig

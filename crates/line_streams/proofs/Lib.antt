pub mod AllowedLemmas
pub mod AnsweredLemmas
pub mod BoundsLemmas
pub mod EveryLineLemmas
pub mod InForceLemmas
pub mod RefusedLemmas
pub mod RequestIdLemmas
pub mod StreamLemmas

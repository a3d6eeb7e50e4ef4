pub mod ClockLemmas
pub mod FirstLemmas
pub mod LocalLemmas
pub mod RestrictionLemmas

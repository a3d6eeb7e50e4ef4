pub mod ArgumentLemmas
pub mod LineInParts

-- Words that only private contracts and proofs use.
pub mod CdrParts
pub mod ConfigStated
pub mod Kept
pub mod KeptDimensions
pub mod KeptId
pub mod KeptTariffs
pub mod RestrictionParts
pub mod SameCdr
pub mod SameTariff
pub mod ZoneRanges

pub mod ContentDifferences
pub mod Doubled
pub mod InParts
pub mod Letters
pub mod Lists
pub mod PartyTexts
pub mod PlatformNames
pub mod Quantities
pub mod SameCdrs
pub mod SameTariffs
pub mod Zones
mod TestedMembers

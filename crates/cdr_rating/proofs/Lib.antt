pub mod Counted
pub mod FoldedCdrs
pub mod Prices
pub mod Rounding
pub mod SamePrices

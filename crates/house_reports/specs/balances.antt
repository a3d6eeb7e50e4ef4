pub mod BalanceText
pub mod Balances
pub mod Bookings
pub mod Inner
pub mod Laws

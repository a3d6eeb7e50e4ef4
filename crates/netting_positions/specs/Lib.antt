pub mod Inner
pub mod Laws
pub mod Netting
pub mod SameSums
pub mod State
pub mod Statement
pub mod StatementKeys

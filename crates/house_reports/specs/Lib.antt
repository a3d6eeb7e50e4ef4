pub mod balances
pub mod ended_house
pub mod explain_lines
pub mod statements

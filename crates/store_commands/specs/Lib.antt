pub mod Change
pub mod ChangeCheck

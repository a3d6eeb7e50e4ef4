pub mod Answering
pub mod Calls
pub mod Codes
pub mod Owned
pub mod Refusals
pub mod Standing

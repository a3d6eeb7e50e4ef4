pub mod AskedAgain
pub mod EventCommands
pub mod Inner

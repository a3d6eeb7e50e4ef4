pub mod AgainLemmas
pub mod AskLemmas
pub mod CommandLemmas
pub mod HoldLemmas
pub mod PlatformLemmas
pub mod TableLemmas

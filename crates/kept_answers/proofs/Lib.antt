pub mod KeptLemmas
pub mod RunLemmas
pub mod ScriptLemmas
pub mod StoreLemmas

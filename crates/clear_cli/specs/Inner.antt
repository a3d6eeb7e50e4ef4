-- Words that private contracts and proofs alone use.
pub mod Making
pub mod ReadingFile
pub mod RecordLists
pub mod Running
pub mod Stated
pub mod UnderConfig
pub mod WritingLines

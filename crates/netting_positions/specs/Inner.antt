-- Words that only private contracts and proofs use.
pub mod KeysInOrder
pub mod Rows
pub mod StatedRows

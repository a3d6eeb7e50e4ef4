-- Words that only proofs use.
pub mod Collecting
pub mod HouseLaws
pub mod Moves
pub mod Ready
pub mod Shown
pub mod Sound
pub mod Steps
pub mod Tables

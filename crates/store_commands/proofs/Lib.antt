pub mod UpgradeLemmas

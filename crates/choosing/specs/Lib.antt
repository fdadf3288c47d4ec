pub mod Stale
pub mod Covered
pub mod Away
pub mod Over
pub mod Ranks
pub mod Part
pub mod Sources

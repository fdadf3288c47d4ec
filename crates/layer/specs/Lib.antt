pub mod Told
pub mod Promises
pub mod ByRule
pub mod Held

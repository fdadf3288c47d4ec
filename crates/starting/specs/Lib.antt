pub mod Bare
pub mod Rest
pub mod Starts

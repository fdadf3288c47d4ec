pub mod Trims
pub mod Puts
pub mod Writes

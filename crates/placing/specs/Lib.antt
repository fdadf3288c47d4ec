pub mod Blocks
pub mod Place
pub mod Way

pub mod Refusals
pub mod Numbered
pub mod Ranges
pub mod Accepts

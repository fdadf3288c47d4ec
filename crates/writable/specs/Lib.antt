pub mod Meeting
pub mod Writing

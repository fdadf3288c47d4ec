pub mod Report
pub mod Reads

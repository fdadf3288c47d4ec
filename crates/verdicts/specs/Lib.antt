pub mod Reading
pub mod Trimming
pub mod Reclaiming

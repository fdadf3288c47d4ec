pub mod Scan
pub mod Store
pub mod Parts
pub mod Says
pub mod Scans

pub mod Sound
pub mod Halved
pub mod Around
pub mod Padded
pub mod Clip
pub mod InUse

pub mod Laid
pub mod LaidLaws
pub mod ReadLaws

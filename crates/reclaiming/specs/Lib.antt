pub mod Remapped
pub mod Slot
pub mod Moves
pub mod Labels
pub mod Emptied
pub mod Reclaims

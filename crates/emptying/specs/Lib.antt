pub mod Empties

pub mod Scripts
pub mod Shown

pub mod Recorded
pub mod Lines
pub mod Handed

pub mod Sending
pub mod Setup
pub mod Rows
pub mod Generated
pub mod Kept

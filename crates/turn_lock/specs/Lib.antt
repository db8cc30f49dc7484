pub mod Pairs
pub mod Sights
pub mod Rule
pub mod Steps

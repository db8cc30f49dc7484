pub mod Events
pub mod Asked
pub mod Meant

pub mod Asked
pub mod Options
pub mod Refusals
pub mod Shape
pub mod Words

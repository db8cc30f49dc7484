pub mod BoundariesAreChars
pub mod FirstLastChars

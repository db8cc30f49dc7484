pub mod Order
pub mod Table
pub mod Kept
pub mod Presses
pub mod Segments
pub mod Typing
pub mod Typists
pub mod Ready

pub mod Characters
pub mod Log
pub mod FieldText
pub mod Kept
pub mod Window

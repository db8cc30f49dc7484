pub mod Keys
pub mod Keyboard
pub mod DownList

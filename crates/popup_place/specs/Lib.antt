pub mod Popup

pub mod Ears
pub mod Open
pub mod Steps
pub mod Seated
pub mod Promise
pub mod Called

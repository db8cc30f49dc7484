pub mod Hidden
pub mod KeptPopups
pub mod Events
pub mod Waiting
pub mod Seated
pub mod Served
pub mod Living
pub mod Numbers

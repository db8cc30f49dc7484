pub mod Seat
pub mod Fate
pub mod Counted
pub mod Laws

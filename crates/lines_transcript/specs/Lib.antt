pub mod Laws
pub mod Printing
pub mod Seats
pub mod Told
pub mod Transcript
pub mod Worked
pub mod Transcribed
pub mod Printed

pub mod Heard
pub mod FromField
pub mod Values
pub mod Passing
pub mod Comparing
pub mod Gathering
pub mod Going
pub mod Hearing

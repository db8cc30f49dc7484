pub mod Queue
pub mod Spacing
pub mod Runs
pub mod Ring
pub mod Links
pub mod Long

pub mod Taking
pub mod Judged
pub mod Standing
pub mod Verdict
pub mod Grammar
pub mod Reading
pub mod Laws

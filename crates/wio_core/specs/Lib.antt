pub mod Io
pub mod LineAnswers
pub mod Lines
pub mod Memory
pub mod WholeLines

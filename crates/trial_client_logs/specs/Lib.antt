pub mod Logs
pub mod MethodLogs
pub mod Writing
pub mod Hearing
pub use Rattle.client_side.specs.MethodLog

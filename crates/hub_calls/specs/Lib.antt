pub mod Made
pub mod Taken
pub mod Submitted
pub mod Ordered
pub mod Counted
pub use Rattle.broker_core.specs.Stands

pub mod Held
pub use Rattle.broker_core.specs.Taking

pub mod Sayable
pub mod ToldRead
pub mod BoardsApart
pub mod BatchesTold
pub mod Streams
pub use Rattle.broker_audience.specs.Tells
pub use Rattle.wl_wire.specs.Texts

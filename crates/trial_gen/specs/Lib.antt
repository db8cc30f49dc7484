pub mod Drawn
pub mod Laws
pub use Rattle.session_gen.specs.Generated

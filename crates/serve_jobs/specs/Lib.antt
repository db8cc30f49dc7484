pub mod LinkTags
pub mod LoopLaws
pub mod Tags
pub use Rattle.serve_net.specs.NewLinks

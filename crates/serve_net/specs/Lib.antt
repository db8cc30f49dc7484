pub mod MemNets
pub mod NewLinks

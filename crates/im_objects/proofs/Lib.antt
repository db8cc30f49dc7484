pub mod TreeIsMap
mod NearIds
pub mod MapsAreInverse
pub mod ObjectsAfterCalls
pub mod MakeRefuses

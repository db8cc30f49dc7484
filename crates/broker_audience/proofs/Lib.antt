pub mod GatheredTokens
pub mod OneOfPeersChanges
pub mod SearchByLabel
pub mod ForgottenObjects
pub mod PlaceByNumber
pub mod ToldToAll
pub mod MarkedPlaces
pub mod VisitIsPass
pub mod PeersInOrder
pub mod UnmarkedAreQuiet
pub mod SlabIsList
pub mod NamesStay
mod TokensFit

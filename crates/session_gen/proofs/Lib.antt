pub mod SetupPlaces
pub mod WordsInTurn
pub mod BytesOfAMessage

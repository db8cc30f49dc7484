pub mod BodiesRead
pub mod MeaningBySteps
pub mod TableIsJournals
pub mod RequestTexts

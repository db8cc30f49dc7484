pub mod FieldLogs
pub mod RelayedBatches
pub mod TrialLaws
pub mod RelayedAsBatches
pub mod ShownTexts
pub mod TypedLogs
pub mod ToldEvents
pub mod MethodLaws

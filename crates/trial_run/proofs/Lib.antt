pub mod FirstMessages
pub mod FrontOfBytes
mod FrontIsSent
pub mod EventsBack
pub mod EventsKnown
pub mod PieceHeard
pub mod RunsInTurn
pub mod StepsTaken
pub mod FieldsChanged
pub mod LoopsRun
pub mod PhasesRun

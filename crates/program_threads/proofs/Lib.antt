pub mod TrialTold
pub mod LinesShown
pub mod OutputTold

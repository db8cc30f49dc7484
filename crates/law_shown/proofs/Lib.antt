pub mod InputsRead
pub mod TrialsShown

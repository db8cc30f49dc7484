pub mod Legal
pub mod RecordedLines
pub mod RecordLaws
pub mod GeneratedLaw
pub mod HubLaw
pub mod Rows

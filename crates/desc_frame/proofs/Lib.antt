pub mod FrameParts
pub mod PartsAsOne
pub mod OneAnswer

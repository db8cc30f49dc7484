pub mod Told
pub mod OneJournal

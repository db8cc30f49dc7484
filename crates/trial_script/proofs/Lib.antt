pub mod ScriptWords
pub mod SpelledLines
pub mod TwoWords
pub mod ReadLines
pub mod ScriptsReadBack
pub mod LinesTaken
pub mod ScriptsRead

pub mod RecordGrows
pub mod StepsText
pub mod HandedText
pub mod HandedWritten

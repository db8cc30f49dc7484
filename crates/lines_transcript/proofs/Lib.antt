pub mod PrintedStepsHold
pub mod StampedSteps
pub mod FaultTexts
pub mod PrintedLines
pub mod NoZeroByte
mod ShortLines
pub mod SeatTexts
pub mod SinceLaws
pub mod PrintedEntries
pub mod ReachedPrintings
pub mod PrintedSteps

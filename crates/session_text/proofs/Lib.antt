mod LowerHex
mod LowerDigits
mod DecimalDigits
mod FirstSpace
mod LongLines
pub mod WrittenNumbers
pub mod LongNumbers
pub mod TestsLetThrough
pub mod WordsAreTexts
pub mod LinesSplit
pub mod WordKinds
mod LowerRead
mod PieceLines
mod UsualLines
pub mod WordsByKind
pub mod SpelledActs
pub mod ReadActs
pub mod SpelledSteps
pub mod SpelledStamps
mod StampedPieces
pub mod ReadSteps
pub mod ReadStamps
pub mod LinesReadBack
pub mod LinesHold
pub mod NumberWords
pub mod SeatLines

pub mod SeatTexts
pub mod SeatsLaws
pub mod SeatsFronts

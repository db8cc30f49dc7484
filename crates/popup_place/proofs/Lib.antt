pub mod SumsFit
pub mod PlacedByRule

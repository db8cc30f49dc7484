pub mod ClapReads
pub mod ClapWalks
pub mod CountsWithin
pub mod ListedValues
pub mod PairsOfWords
pub mod RefusalsPassOn
pub mod ShapeRefusals

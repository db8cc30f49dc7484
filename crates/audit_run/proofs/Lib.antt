pub mod GoodComputed
pub mod StepsGathered
pub mod LinesOnWay
pub mod TakesDry
pub mod LinesJudged
pub mod TakesOnWay
pub mod LinesAsked
pub mod SpellingsReadBack

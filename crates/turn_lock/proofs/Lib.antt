pub mod PairsOfNumbers
pub mod TotalsOfPairs
mod ViewsAfterChange
mod PeopleAfterStep
mod PeopleAfterSplit
mod PeopleAfterMeeting
mod FirstSeatKnows
mod StepsKeepRule
mod SeatsBetweenCalls
mod TurnIsLegal
pub mod OwnPairsAfterCalls

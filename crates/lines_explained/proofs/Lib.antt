pub mod CourseByCounts
pub mod LinesSince
pub mod ExplainersReached
pub mod OutcomesGiven
pub mod OwnGroupPut
pub mod KeysSent
pub mod LacksHold
pub mod ArgumentsNamed

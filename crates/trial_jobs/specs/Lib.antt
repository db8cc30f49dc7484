pub mod MethodAsked
pub mod MethodHearing
pub mod MethodLaw
pub mod MethodGoing
pub mod JobLaw

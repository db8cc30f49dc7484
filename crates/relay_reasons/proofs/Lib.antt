pub mod ActivationHeld
pub mod FateByCounts
pub mod FateLaws

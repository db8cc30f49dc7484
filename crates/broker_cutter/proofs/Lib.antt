pub mod FirstSteps

pub mod EndsFewer
pub mod LinesHold
pub mod SessionsHeld
pub mod SessionsRead

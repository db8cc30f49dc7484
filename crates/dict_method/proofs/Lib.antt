pub mod ControlKeys
pub mod FirstRows
pub mod InputsInTurn

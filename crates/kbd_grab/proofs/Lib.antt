pub mod KeysCounted
pub mod KeysByCalls
pub mod KeyTurns
pub mod GrabsStand
pub mod DownLists

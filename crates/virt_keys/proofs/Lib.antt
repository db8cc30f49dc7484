pub mod BoardTree
pub mod TurnedKeys
pub mod BoardHistories
pub mod PeerBoardsLeft

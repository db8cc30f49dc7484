pub mod Routes
pub mod Boards
pub mod PeerBoards

pub mod Boxes
pub mod ZeroBehind
pub mod ByteBoxes
pub mod HandedBatches
pub mod TextsFit

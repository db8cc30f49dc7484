pub mod CellsMove
pub mod PlacesWrap
pub mod StoreCalls
pub mod StoreStandsFor
pub mod NumberedItems
pub mod ListsCross

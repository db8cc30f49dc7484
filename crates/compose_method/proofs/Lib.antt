pub mod DictionaryOrder
pub mod FoundByPlace
pub mod PlacesOfKeys
pub mod PressesType
pub mod TableGrows
pub mod TypedKeysStay
pub mod ReadingFronts

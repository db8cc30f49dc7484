pub mod AppObjects
pub mod FieldGroups
pub mod OwedGroups
pub mod SeenOwed
pub mod Lines
pub mod Yes

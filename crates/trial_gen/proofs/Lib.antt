pub mod TextsGrow
pub mod LinesDrawn
pub mod ScriptsDrawn

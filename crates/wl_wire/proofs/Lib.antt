pub mod TextsKnown
pub mod SizeInHeader
pub mod PiecesGathered
pub mod MessagesHoweverCut
pub mod FirstMessages
pub mod ArgumentsReadBack

pub mod TableLemmas
pub mod WrittenIsSpelled
pub mod ValuesReadBack
pub mod MessagesReadBack
pub mod EachRow
pub mod WrittenIsWhole

pub mod Tally
pub mod Among
pub mod DistinctLaws
pub mod RowWords

mod Spans
pub mod TableLaws
pub mod ChoiceLaws

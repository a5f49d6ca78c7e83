pub mod Each
pub mod Runs
pub mod LineLaws
pub mod FieldLaws
pub mod NumberLaws
pub mod PageLaws
pub mod Cuts

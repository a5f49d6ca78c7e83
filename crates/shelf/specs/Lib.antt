pub mod Meaning
pub mod Table
pub mod Grid
pub mod Listed
pub mod Proved
pub mod Makes

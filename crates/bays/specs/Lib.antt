pub mod Meaning
pub mod Spots
pub mod Law
pub mod Proved
pub mod Makes

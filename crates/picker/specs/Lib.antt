pub mod Meaning
pub mod Lowest
pub mod Ranking
pub mod Proved
pub mod Makes

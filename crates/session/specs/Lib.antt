pub mod Verdicts
pub mod Inner
pub mod Moving
pub mod Reaching
pub mod Rows
pub mod View
pub mod Solving

pub mod Fitted
pub mod Lines
pub mod Named
pub mod Solving

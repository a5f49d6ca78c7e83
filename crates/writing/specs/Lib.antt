pub mod Put
pub mod Writes

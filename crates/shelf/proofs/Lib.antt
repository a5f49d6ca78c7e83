mod Walks
mod Blocks
mod Marks
pub mod Filling

pub mod Meaning
pub mod Choices
pub mod Tables
pub mod Joining
pub mod Proved
pub mod Makes

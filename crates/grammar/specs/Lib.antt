pub mod Reading
pub mod Writing
pub mod Format
pub mod Law
pub mod Cases

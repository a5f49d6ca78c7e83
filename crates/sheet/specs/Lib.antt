pub mod Reading
pub mod Format
pub mod Law
pub mod Views
pub mod Cases

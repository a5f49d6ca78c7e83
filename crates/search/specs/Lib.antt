pub mod Trail
pub mod Machine
pub mod Bounds
pub mod Calls
pub mod Law
pub mod Places
pub mod Cases
pub mod Words

pub mod Scanning
pub mod Under

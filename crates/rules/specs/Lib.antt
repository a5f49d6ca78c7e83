pub mod Listing
pub mod Proved

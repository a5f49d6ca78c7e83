pub mod Steps
pub mod Looking
pub mod Laws
pub mod Solves

pub mod Stacking

pub mod Promise
pub mod Printing
pub mod Fitting

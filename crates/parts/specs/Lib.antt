pub mod Lists
pub mod Codes
pub mod Marks
pub mod Numbers
pub mod Rows
pub mod Distinct

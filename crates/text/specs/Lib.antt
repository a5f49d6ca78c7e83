pub mod Pieces
pub mod Layout
pub mod Numbers
pub mod Cutting
pub mod Page
pub mod Views

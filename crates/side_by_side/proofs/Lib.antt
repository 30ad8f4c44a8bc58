pub mod Texts
pub mod Pieces
pub mod Decided
pub mod Refusing
pub mod Outcomes
pub mod Cells
pub mod Points
pub mod Written

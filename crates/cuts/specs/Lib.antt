pub mod Cut
pub mod Preview
pub mod Rows
pub mod Source
pub mod Tool

pub mod Read
pub mod Write
pub mod InParts
pub mod Exactly

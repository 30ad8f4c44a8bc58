pub mod Parts
pub mod OneFile
pub mod AnyCut
pub mod Alike

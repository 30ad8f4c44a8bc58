mod Drawing
mod Runs
mod Texts
mod Contours
pub mod Solid

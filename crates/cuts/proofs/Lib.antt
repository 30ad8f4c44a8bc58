pub mod Previews
pub mod Places
pub mod Grades
pub mod Sweeps
pub mod Crossings
pub mod Tools
pub mod EachBin
pub mod Spans
pub mod Singles
mod Drills
mod Left
mod Rests

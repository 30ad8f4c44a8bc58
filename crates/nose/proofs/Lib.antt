pub mod Segments
pub mod Tracks
pub mod Noses
pub mod Normals
pub mod Overs

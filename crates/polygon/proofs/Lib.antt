pub mod Turns
pub mod First
pub mod Visits
pub mod Reaches
pub mod Sizes
pub mod Plain
pub mod Domain

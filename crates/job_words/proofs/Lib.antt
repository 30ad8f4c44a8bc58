pub mod Signs
pub mod All

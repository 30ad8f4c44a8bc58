pub mod Compared
pub mod Refused
pub mod Files

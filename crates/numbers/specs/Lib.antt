pub mod Root
pub mod RootBits
pub mod Length
pub mod Whole

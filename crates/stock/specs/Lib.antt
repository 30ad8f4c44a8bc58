pub mod Spec
pub mod Bin
pub mod Cell
pub mod Stock
pub mod Signs

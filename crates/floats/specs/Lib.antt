pub mod Pick
pub mod Numbers
pub mod Kinds
pub mod Each

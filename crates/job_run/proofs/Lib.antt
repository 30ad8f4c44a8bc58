pub mod Carrying
pub mod Made
pub mod Lines
pub mod Bytes
pub mod WholeFile
pub mod Room
pub mod Streamed
pub mod Editions

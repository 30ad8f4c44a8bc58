pub mod Move
pub mod Then

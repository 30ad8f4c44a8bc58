pub mod Form
pub mod First
pub mod Room
pub mod Reading

pub mod Sides
pub mod Fit
pub mod Removes
pub mod OneByOne
pub mod AnyOrder
pub mod Deepest
pub mod Forms
pub mod Reaches

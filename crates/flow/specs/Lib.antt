pub mod Flows
pub mod Classes
pub mod Declarations
pub mod Bounds
pub mod Keeping
pub mod Rows

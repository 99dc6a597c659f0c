pub mod Laws
pub mod Blocks
pub mod Declarations
pub mod ClassBounds
pub mod Folds
mod Windows
mod Reached
mod Rows
mod RowsWindows
mod RowsBurst
mod BoundTable
pub mod SignedOrder
pub mod RowsExample
pub mod Keeping

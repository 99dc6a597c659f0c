pub mod ReferencePaths
mod Part
mod Steps
mod Reached
pub mod Promise
mod Bounds
mod Capacities
mod ClassLaws
pub mod CameraTable
pub mod RowsNeverTooLarge
mod Tests
mod EachOperator
mod SheetAnswer
pub mod Profiles

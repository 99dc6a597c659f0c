pub mod Columns
pub mod Pages
pub mod Answers
pub mod Reading
pub mod Shape

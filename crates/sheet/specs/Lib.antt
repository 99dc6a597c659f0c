pub mod Numbers
pub mod Paths
pub mod Bodies
pub mod House
pub mod Forms
pub mod Fields
pub mod Sheets

mod Bytes
mod Decimals
mod Columns
mod Putting
mod Lines
mod Accepted
mod Pages
mod Answering
pub mod Promise
mod Writing
mod ReferencePages

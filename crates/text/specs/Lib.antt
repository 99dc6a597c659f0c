pub mod Lines
pub mod Rows
pub mod Decimals
pub mod DecimalRows
pub mod Hexadecimals

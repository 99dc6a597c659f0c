pub mod Meter
pub mod Parts
pub mod Counting
pub mod Metering
pub mod Words

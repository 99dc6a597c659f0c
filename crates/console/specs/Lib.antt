pub mod Printed
pub mod Faults
pub mod Held

pub mod PathFaults

pub mod Laws
pub mod Sums
pub mod Rounding
pub mod Divisors
pub mod Refusals
pub mod Quantities

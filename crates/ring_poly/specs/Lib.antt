pub mod Polynomials
pub mod Sums

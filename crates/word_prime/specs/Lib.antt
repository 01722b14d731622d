pub mod Lanes
pub mod Halves

pub mod Lifts
pub mod Packings

pub mod Asks
pub mod Opens

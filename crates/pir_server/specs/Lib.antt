pub mod Served
pub mod Switched
pub mod Sessions
pub mod Talks

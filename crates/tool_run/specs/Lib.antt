pub mod Run
pub mod Retrieving
pub mod Fetching

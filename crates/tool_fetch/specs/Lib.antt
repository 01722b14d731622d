pub mod Fetch
pub mod Exchanging

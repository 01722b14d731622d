pub mod Steps
mod Remainders
pub mod Halves
pub mod Joined
mod Powers
pub mod Places

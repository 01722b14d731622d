pub mod Texts
pub mod Statuses
pub mod Sources
pub mod Words
pub mod Names
pub mod Puts
pub mod Outputs
pub mod Steps

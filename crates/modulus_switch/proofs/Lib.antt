pub mod Parts
pub mod Places
pub mod Replies
pub mod Opening
pub mod Entries
pub mod Switching

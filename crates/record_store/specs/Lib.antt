pub mod Preparing
pub mod Decoding
pub mod Storing

pub mod Parsing
pub mod Heads
pub mod Decoding
pub mod OneFrames
pub mod StreamLaws
pub mod Serving

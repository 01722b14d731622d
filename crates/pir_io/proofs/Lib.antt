pub mod LeftToRead
pub mod ReadingFront
pub mod Kept
pub mod WrittenParts

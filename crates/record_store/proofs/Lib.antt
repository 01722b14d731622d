pub mod Numbers
pub mod Spelling
pub mod Values
pub mod Wholes
pub mod ReadingDatabases

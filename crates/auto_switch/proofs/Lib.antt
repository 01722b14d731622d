pub mod Multiples
pub mod Appended
pub mod AutoMessages
pub mod Applied

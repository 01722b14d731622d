pub mod HeaderLaws
pub mod HeaderReading
pub mod Outcomes

pub mod NamedSets
pub mod WordForms
pub mod WritingAll
pub mod Courses
pub mod Telling

pub mod Points
pub mod Values
pub mod Remainders
pub mod Tables
pub mod Laws

pub mod Laws
pub mod LookUps

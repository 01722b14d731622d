pub mod Sums
pub mod Residues
pub mod Ring
pub mod Digits
pub mod Laws
pub mod RingLaws

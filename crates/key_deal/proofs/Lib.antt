pub mod SetNumbers
pub mod Counted
pub mod Shapes
pub mod RoundKeys
pub mod LiftMessages
pub mod Conversions
pub mod WholeKeys

pub mod Dealt
mod FirstDimension
mod Folding
pub mod LookUps
mod Measured
mod Opening
mod Openings
mod Packing
mod RecordValues
mod Results
mod Selections

pub mod EachSet
pub mod SetBounds
pub mod SetNames
pub mod SampleSet

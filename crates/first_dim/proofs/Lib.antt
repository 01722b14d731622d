pub mod PlaceSums
pub mod ProductPlaces
pub mod RecordMatrices

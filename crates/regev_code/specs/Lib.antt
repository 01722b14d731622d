pub mod Seen
pub mod Shapes
pub mod Products
pub mod KeyShapes
pub mod Drawn
pub mod RowSums

pub mod Widths
pub mod ColumnMessages
pub mod FirstMessages
pub mod Columns
pub mod Products

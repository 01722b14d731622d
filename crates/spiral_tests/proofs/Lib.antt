pub mod Edge
pub mod Pack

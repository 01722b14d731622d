pub mod Asked
pub mod Shapes
pub mod ReplyShapes
pub mod Answered

pub mod Local
pub mod BufferLinks
pub mod LocalParts

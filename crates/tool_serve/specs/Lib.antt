pub mod Serve
pub mod SessionsServed

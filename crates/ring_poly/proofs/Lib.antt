pub mod Modulus
mod Powers
mod Places
mod Held
mod Values
mod Terms
mod Summed

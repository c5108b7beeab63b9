-- Laws of complex numbers that other crates cite.
pub mod Bounds
pub mod Made
pub mod Steps
pub mod Laws
pub mod Triangle

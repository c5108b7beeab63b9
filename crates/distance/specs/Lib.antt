-- Document 01, "Mho loops".
pub mod Constants
pub mod Mho
pub mod Laws
pub mod Sizes

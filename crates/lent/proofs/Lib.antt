-- What belongs to no one function: laws of what is written and compared.
pub mod Every
pub mod Over
pub mod Differences

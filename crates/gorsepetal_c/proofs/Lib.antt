-- What the exports promise.
pub mod Contracts

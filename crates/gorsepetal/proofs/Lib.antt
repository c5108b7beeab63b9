-- What belongs to no one function.
pub mod Good
pub mod Cases
pub mod Numbers
pub mod EventCases
pub mod Contracts
pub mod EventContracts

-- The proofs of the statements in specs/.
pub mod One
pub mod Parts
pub mod Relay
pub mod GivenBack
pub mod Frames
pub mod Unmoved
pub mod Demand1
pub mod Settings
pub mod Feeding
pub mod Decisions
pub mod WhichRule
pub mod WrongRelays
pub mod Underneath

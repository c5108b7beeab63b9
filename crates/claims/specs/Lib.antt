-- What a reader may rely on (documents 01 and 02), over the calls' own claims in gorsepetal's `Calls`.
pub mod One
pub mod GivenBack
pub mod Settings
pub mod Demand1
pub mod Frames
pub mod Unmoved
pub mod Feeding
pub mod Decisions
pub mod WhichRule
pub mod WrongRelays
pub mod Underneath

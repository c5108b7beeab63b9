-- The decision record: the trip rule, and the 32 bytes.
pub mod DecisionRecord
pub mod Sizes

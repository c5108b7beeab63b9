-- Document 01's hand checks, and whole decisions worked out from their samples.
pub mod HandChecks
pub mod Worked

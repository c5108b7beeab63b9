-- Both, by computation.
pub mod HandChecks
pub mod Worked

-- The decision: what is found in a window, and what decide answers.
pub mod Decision
pub mod Decide

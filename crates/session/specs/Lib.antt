-- The window program's session: what it takes from its input, and what it prints.
pub mod Taken
pub mod Session

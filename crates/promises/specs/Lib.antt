-- The one statement.
pub mod Promises

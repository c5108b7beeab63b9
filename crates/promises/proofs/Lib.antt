-- Its witness.
pub mod Promises

-- What a caller may rely on who reads and writes event files.
pub mod One
pub mod GivenBack
pub mod Caller
pub mod Files
pub mod Ending

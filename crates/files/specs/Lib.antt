-- The reader of event files as data, what its caller hears, and what is promised of cutting.
pub mod Reader
pub mod Caller
pub mod Cutting

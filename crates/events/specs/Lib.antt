-- The reader of event files in its slice.
pub mod Slice

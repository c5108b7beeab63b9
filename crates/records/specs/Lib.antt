-- A record of an event file, and the writer.
pub mod Record
pub mod Writer

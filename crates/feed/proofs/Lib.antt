-- Each way out of feed, on plain lists.
pub mod Cases

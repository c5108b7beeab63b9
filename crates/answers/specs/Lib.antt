-- What a call answers.
pub mod Answers

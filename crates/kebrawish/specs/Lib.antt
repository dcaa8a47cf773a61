-- What the functions for C answer.
pub mod Answers
pub mod Says

-- What judge answers.
pub mod Judging

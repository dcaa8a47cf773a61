-- Theorems on what lay answers, and examples that compute.
pub mod Answers
pub mod Characters
pub mod Theorems
pub mod Examples
pub mod AlikeExamples
pub mod Starred

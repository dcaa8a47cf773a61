-- Theorems on what judge answers, and examples that compute.
pub mod Exact
pub mod Examples

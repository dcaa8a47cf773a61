-- What the proofs of several functions use, and those of the crate `parser`.
pub mod Leaves
mod Rules
